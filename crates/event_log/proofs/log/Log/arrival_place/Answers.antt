use Rattle.std.proofs.Common.{◌≡◌, ℕ, ◌+◌, ◌<◌, Bool, true, false, cond, nat_lt, None, Some, sym, ◌∙◌, ap, arith}
use Rattle.std.specs.Prelude.{position}
use Rattle.std.proofs.lemmas.Bool.Decides.{nat_tests}
use Rattle.event_log.specs.Folding.{arrival_place}
use Rattle.event_log.specs.History.{History, of_snapshot, message_count, next_place}
use Rattle.event_log.specs.inner.History.{is_arrival_of}
use Rattle.event_log.specs.inner.Kept.{Kept}
use Rattle.event_log.proofs.ArrivalPlaces.{came-nowhere, came-remembered, came-since}
use Rattle.event_log.proofs.log.Log.arrival_place.Goals as goal

pub returns-in-Some : goal.returns-in-Some
returns-in-Some c =
    let h : History = of_snapshot c.self.inside.opening c.self.inside.entries.items in
    let is : h ≡ c.args.self.now.history = ap (λ (k : Kept). k.history) c.self.view_is in
    came-remembered h c.args.number c.in-Some.place (sym c.arrival_place.ensures ∙ c.in-Some.is)
    ∙ ap (λ (g : History). arrival_place g c.args.number) is

pub returns-in-Some-index_of_arrival : goal.returns-in-Some-index_of_arrival
returns-in-Some-index_of_arrival c =
    let h : History = of_snapshot c.self.inside.opening c.self.inside.entries.items in
    let is : h ≡ c.args.self.now.history = ap (λ (k : Kept). k.history) c.self.view_is in
    let places : c.first_place.result ≡ h.opening.places = c.first_place.ensures.value ∙ sym (ap (λ (g : History). g.opening.places) is) in
    let since : position (is_arrival_of c.args.number) h.entries ≡ Some c.in-Some-index_of_arrival.k
    = ap (position (is_arrival_of c.args.number)) (sym c.deref.ensures.value) ∙ (sym c.index_of_arrival.ensures ∙ c.in-Some-index_of_arrival.is) in
    ap (λ (p : ℕ). p + c.in-Some-index_of_arrival.k) places
    ∙ (came-since h c.args.number c.in-Some-index_of_arrival.k (sym c.arrival_place.ensures ∙ c.in_default.is) since
    ∙ ap (λ (g : History). arrival_place g c.args.number) is)

pub returns-then-number-message_count : goal.returns-then-number-message_count
returns-then-number-message_count c =
    let h : History = of_snapshot c.self.inside.opening c.self.inside.entries.items in
    let is : h ≡ c.args.self.now.history = ap (λ (k : Kept). k.history) c.self.view_is in
    let since : position (is_arrival_of c.args.number) h.entries ≡ None
    = ap (position (is_arrival_of c.args.number)) (sym c.deref.ensures.value) ∙ (sym c.index_of_arrival.ensures ∙ c.in_default-index_of_arrival.is) in
    let count : c.message_count.result ≡ message_count h = c.message_count.ensures ∙ sym (ap message_count is) in
    let came = c.if-number-message_count.true in
    let less : c.args.number < message_count h = omega arith in
    let yes : nat_lt c.args.number (message_count h) ≡ true = grind (arith, nat_tests) in
    ap (λ (b : Bool). cond b 0 (next_place h)) (sym yes)
    ∙ (came-nowhere h c.args.number (sym c.arrival_place.ensures ∙ c.in_default.is) since ∙ ap (λ (g : History). arrival_place g c.args.number) is)

pub returns-else-number-message_count : goal.returns-else-number-message_count
returns-else-number-message_count c =
    let h : History = of_snapshot c.self.inside.opening c.self.inside.entries.items in
    let is : h ≡ c.args.self.now.history = ap (λ (k : Kept). k.history) c.self.view_is in
    let since : position (is_arrival_of c.args.number) h.entries ≡ None
    = ap (position (is_arrival_of c.args.number)) (sym c.deref.ensures.value) ∙ (sym c.index_of_arrival.ensures ∙ c.in_default-index_of_arrival.is) in
    let count : c.message_count.result ≡ message_count h = c.message_count.ensures ∙ sym (ap message_count is) in
    let to_come = c.if-number-message_count.false in
    let no : nat_lt c.args.number (message_count h) ≡ false = grind (arith, nat_tests) in
    c.len-next.ensures
    ∙ (sym (ap next_place is)
    ∙ (ap (λ (b : Bool). cond b 0 (next_place h)) (sym no)
    ∙ (came-nowhere h c.args.number (sym c.arrival_place.ensures ∙ c.in_default.is) since ∙ ap (λ (g : History). arrival_place g c.args.number) is)))
