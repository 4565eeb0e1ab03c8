-- What answers and events book.
use Rattle.std.proofs.Common.{◌≡◌, ℕ, true, false, cond, ◌==◌, List, [], ◌∷◌, ◌++◌, Option, None, Some, Result, Ok, Err, refl, sym, ap, ◌∙◌, append_assoc, append-nil, eq-eqb}
use Rattle.std.specs.List.{cons_option}
use Rattle.std.proofs.lemmas.Bool.{ne_eqb}
use Rattle.std.proofs.lemmas.List.Elements.{filter_map-append}
use Rattle.conn_core.specs.declared.booking.Unbooked.{Unbooked}
use Rattle.event_log.specs.declared.entry.Entry.{Entry}
use Rattle.event_log.specs.declared.entry.Entry.TheVariants.{Arrival}
use Rattle.event_log.specs.declared.entry.Told.{Told}
use Rattle.event_log.specs.History.{History, followed_by}
use Rattle.event_log.specs.Legal.{IsLegal, MayFollow}
use Rattle.event_log.specs.Event as event
use Rattle.event_log.specs.Event.{IsPossible, Event, Refusal, Reply, after, entry_of, next}
use Rattle.event_log.proofs.Events.{may-follow}
use Rattle.event_log.proofs.Following.{legal-followed_by}
use Rattle.conn_core.specs.Messages.{BookedMessage, booked, booked_with}
use Rattle.conn_core.specs.Replies.{Answer}
use Rattle.engine_model.specs.Run.{arrival_on, arrivals_on}
use Rattle.engine_model.specs.Steps.{AreAnswered, IsNoArrival, IsAnswered, after_answer, after_answers, history_with}

-- ---- answers

legal-answer : (conn channel : ℕ) (h : History) (raw : List ℕ) (outcome : Result Told Unbooked) → IsLegal h → IsAnswered conn channel h raw outcome → IsLegal (history_with conn channel h raw outcome)
legal-answer conn channel h raw (Ok told) legal may = legal-followed_by h (Arrival conn channel raw told) legal may
legal-answer conn channel h raw (Err refusal) legal may = legal

-- what answers book is legal
pub legal-answers : (conn channel now : ℕ) (h : History) (answers : List Answer) → IsLegal h → AreAnswered conn channel now h answers → IsLegal (after_answers conn channel h answers)
legal-answers conn channel now h [] legal all = legal
legal-answers conn channel now h (a ∷ answers) legal all =
    legal-answers conn channel now (after_answer conn channel h a) answers (legal-answer conn channel h a.raw a.outcome legal all.0) all.2

-- one entry more
pub arrivals-followed_by : (conn : ℕ) (h : History) (e : Entry) → arrivals_on conn (followed_by h e) ≡ arrivals_on conn h ++ cons_option (arrival_on conn e) []
arrivals-followed_by conn h e = filter_map-append (arrival_on conn) h.entries (e ∷ [])

cons-split : {A : Type 0} (o : Option A) (xs : List A) → cons_option o [] ++ xs ≡ cons_option o xs
cons-split None xs = refl
cons-split (Some x) xs = refl

own_one : (conn channel : ℕ) (h : History) (raw : List ℕ) (outcome : Result Told Unbooked) → arrivals_on conn (history_with conn channel h raw outcome) ≡ arrivals_on conn h ++ cons_option (booked_with conn channel raw outcome) []
own_one conn channel h raw (Ok told) =
    let same : (conn == conn) ≡ true = eq-eqb conn conn refl in
    let one : BookedMessage = record { conn = conn; channel = channel; raw = raw; told = told } in
    arrivals-followed_by conn h (Arrival conn channel raw told) ∙ ap (λ b. arrivals_on conn h ++ cons_option (cond b (Some one) None) []) same
own_one conn channel h raw (Err refusal) = sym (append-nil (arrivals_on conn h))

-- the answers of a connection book its arrivals
pub arrivals-own : (conn channel : ℕ) (h : History) (answers : List Answer) → arrivals_on conn (after_answers conn channel h answers) ≡ arrivals_on conn h ++ booked conn channel answers
arrivals-own conn channel h [] = sym (append-nil (arrivals_on conn h))
arrivals-own conn channel h (a ∷ answers) =
    arrivals-own conn channel (after_answer conn channel h a) answers
    ∙ ap (λ l. l ++ booked conn channel answers) (own_one conn channel h a.raw a.outcome)
    ∙ append_assoc (arrivals_on conn h) (cons_option (booked_with conn channel a.raw a.outcome) []) (booked conn channel answers)
    ∙ ap (λ l. arrivals_on conn h ++ l) (cons-split (booked_with conn channel a.raw a.outcome) (booked conn channel answers))

other_one : (other conn channel : ℕ) (h : History) (raw : List ℕ) (outcome : Result Told Unbooked) → (conn ≡ other → ⊥) → arrivals_on other (history_with conn channel h raw outcome) ≡ arrivals_on other h
other_one other conn channel h raw (Ok told) apart =
    let test : (conn == other) ≡ false = ne_eqb conn other apart in
    let one : BookedMessage = record { conn = conn; channel = channel; raw = raw; told = told } in
    arrivals-followed_by other h (Arrival conn channel raw told) ∙ ap (λ b. arrivals_on other h ++ cons_option (cond b (Some one) None) []) test ∙ append-nil (arrivals_on other h)
other_one other conn channel h raw (Err refusal) apart = refl

-- and no arrival of another
pub arrivals-other : (other conn channel : ℕ) (h : History) (answers : List Answer) → (conn ≡ other → ⊥) → arrivals_on other (after_answers conn channel h answers) ≡ arrivals_on other h
arrivals-other other conn channel h [] apart = refl
arrivals-other other conn channel h (a ∷ answers) apart =
    arrivals-other other conn channel (after_answer conn channel h a) answers apart ∙ other_one other conn channel h a.raw a.outcome apart

-- ---- the other events

-- a history that comes of another, and brings no arrival
pub record BringsNone (h h' : History) : Type 0 where
  pub legal : IsLegal h'
  pub arrivals : (conn : ℕ) → arrivals_on conn h' ≡ arrivals_on conn h

brings_none : (h : History) (e : Entry) → IsLegal h → MayFollow h e → ((conn : ℕ) → arrival_on conn e ≡ None) → BringsNone h (followed_by h e)
brings_none h e legal may none =
    record {
      legal = legal-followed_by h e legal may;
      arrivals = λ conn. arrivals-followed_by conn h e ∙ ap (λ o. arrivals_on conn h ++ cons_option o []) (none conn) ∙ append-nil (arrivals_on conn h);
    }

no-arrival : (e : Event) → IsNoArrival e → (reply : Reply e) (conn : ℕ) → arrival_on conn (entry_of e reply) ≡ None
no-arrival (event.arrive conn channel raw) none reply on = absurd none
no-arrival (event.take d now) none reply on = refl
no-arrival (event.settle ticket outcome now) none reply on = refl
no-arrival (event.cancel number among) none reply on = refl
no-arrival (event.deploy plan) none reply on = refl

-- an event that is possible, but no arrival
pub event-keeps : (h : History) (e : Event) → IsNoArrival e → IsPossible e → IsLegal h → BringsNone h (next h e)
event-keeps h e none possible legal = by (event.answer h e) refl
  where
    by : (o : Result (Reply e) (Refusal e)) → event.answer h e ≡ o → BringsNone h (after h e o)
    by (Ok reply) is = brings_none h (entry_of e reply) legal (may-follow h e reply possible is) (no-arrival e none reply)
    by (Err refusal) is = record { legal = legal; arrivals = λ conn. refl }
