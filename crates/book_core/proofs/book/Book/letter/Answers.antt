use Rattle.std.proofs.Common.{◌≡◌, ◌∙◌, ap, sym}
use Rattle.std.specs.Prelude.{option_copied, find, ◌==◌, []}
use Rattle.std.specs.Option.{option_map_or}
use Rattle.judge_core.specs.declared.delivery.Delivery.{Delivery}
use Rattle.event_log.specs.History.{control_id, deliveries, names, payload}
use Rattle.book_core.proofs.KeepingTakes.{kept-letter, letter-exists, payload-found, payload-is}
use Rattle.book_core.proofs.book.Book.letter.Goals as goal

pub unreachable-requires : goal.unreachable-requires
unreachable-requires g c =
    letter-exists _ _ _ _ _ _ c.self.invariant c.args.number c.args.d (ap (λ h. names c.args.d (deliveries h c.args.number)) c.self.view_is ∙ c.requires) (sym c.get.ensures ∙ ap option_copied c.in_default.is)

pub unreachable-requires-in_default-payload : goal.unreachable-requires-in_default-payload
unreachable-requires-in_default-payload g c =
    let letter = kept-letter _ _ _ _ _ _ c.self.invariant c.args.number c.in-Some.message.now (sym c.get.ensures ∙ ap option_copied c.in-Some.is) in
    payload-found c.args.d _
    (ap (names c.args.d) letter.1 ∙ (ap (λ h. names c.args.d (deliveries h c.args.number)) c.self.view_is ∙ c.requires))
    (sym c.payload.ensures ∙ ap option_copied c.in_default-payload.is)

pub returns : goal.returns
returns g c =
    let letter = kept-letter _ _ _ _ _ _ c.self.invariant c.args.number c.in-Some.message.now (sym c.get.ensures ∙ ap option_copied c.in-Some.is) in
    let id : c.in_ok-control_id_piece.field-0 ≡ control_id c.args.self.now c.args.number = c.in_ok-control_id_piece.ensures ∙ (letter.0 ∙ ap (λ h. control_id h c.args.number) c.self.view_is) in
    let found = payload-is (find (λ x. x.destination == c.args.d) _) c.in-Some-payload.text.now (sym c.payload.ensures ∙ ap option_copied c.in-Some-payload.is) in
    let text : c.in_ok-share.field-0 ≡ payload c.args.self.now c.args.number c.args.d =
    c.in_ok-share.ensures ∙ (sym found ∙ (ap (λ ds. option_map_or (λ x. x.payload) (find (λ (x : Delivery). x.destination == c.args.d) ds) []) letter.1 ∙ ap (λ h. payload h c.args.number c.args.d) c.self.view_is)) in
    ap (λ a. (a, c.in_ok-share.field-0)) id ∙ ap (λ b. (control_id c.args.self.now c.args.number, b)) text
