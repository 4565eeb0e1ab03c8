use Rattle.engine_workers.proofs.inlet.serve_accepted.Goals as goal

pub returns-clause-served : goal.returns-clause-served
returns-clause-served g c = rw c.requires.accepted c.serve.ensures.served
