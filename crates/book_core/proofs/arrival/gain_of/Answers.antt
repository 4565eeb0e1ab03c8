use Rattle.std.proofs.Common.{rules, ◌≡◌, ◌∙◌, ap, sym}
use Rattle.std.specs.Option.{option_copied}
use Rattle.hl7_head.specs.Header.{header_of}
use Rattle.event_log.specs.History.{control_id_of}
use Rattle.book_core.proofs.Gains.{id_known}
use Rattle.book_core.proofs.arrival.gain_of.Goals as goal

pub returns-in-Accepted-Accept-Some : goal.returns-in-Accepted-Accept-Some
returns-in-Accepted-Accept-Some c =
    let id : c.in-Accepted-Accept-Some.header.now.control_id ≡ control_id_of c.args.judged.now.raw = id_known (header_of c.args.judged.now.raw) _ (sym (ap option_copied c.in-Accepted-Accept-Some.is-2) ∙ c.header.ensures) in
    search (rules, id)
