use Rattle.service_workers.proofs.place.serve_halves.Goals as goal

pub returns : goal.returns
returns g c =
    let served = c.serve_within.ensures.served in
    (served.receipts, rw c.requires.accepted served.serves)
