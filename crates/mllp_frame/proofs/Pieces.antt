-- However a stream is cut.
use Rattle.std.proofs.Common.{◌≡◌, ℕ, List, [], ◌∷◌, ◌++◌, take, drop, refl, sym, ap, ◌∙◌, append_assoc, append-nil}
use Rattle.std.proofs.lemmas.List.{append_cancel_left, take-append-drop}
use Rattle.mllp_frame.specs.Event.{FramingEvent}
use Rattle.mllp_frame.specs.inner.Framed.{Framed, fed, taken, blank, AddsFront, IsFront}
use Rattle.mllp_frame.specs.Framing.{blocks}
use Rattle.mllp_frame.specs.inner.Framing.{open_end}
use Rattle.mllp_frame.specs.inner.Calls.{Call, feed, next, bytes_of, handed_out, after_calls}
use Rattle.mllp_frame.proofs.Appending.{blocks-append, open_end-append}

pub blocks-open_end : (s : List ℕ) → blocks (open_end s) ≡ []
blocks-open_end s =
    append_cancel_left (blocks s) (blocks (open_end s)) []
    (ap (λ l. blocks s ++ blocks l) (sym (append-nil (open_end s))) ∙ sym (blocks-append s []) ∙ ap blocks (append-nil s) ∙ sym (append-nil (blocks s)))

pub open_end-open_end : (s : List ℕ) → open_end (open_end s) ≡ open_end s
open_end-open_end s = ap open_end (sym (append-nil (open_end s))) ∙ sym (open_end-append s []) ∙ ap open_end (append-nil s)

-- from any framer whose open end gives no event
run : (f : Framed) (calls : List Call) → blocks f.open_end ≡ [] → handed_out f calls ++ (after_calls f calls).to_come ≡ f.to_come ++ blocks (f.open_end ++ bytes_of calls)
run f [] silent = sym (append-nil f.to_come) ∙ ap (λ l. f.to_come ++ l) (sym silent ∙ ap blocks (sym (append-nil f.open_end)))
run f (feed piece ∷ calls) silent =
    let s : List ℕ = f.open_end ++ piece in
    run (fed f piece) calls (blocks-open_end (f.open_end ++ piece))
    ∙ append_assoc f.to_come (blocks (f.open_end ++ piece)) (blocks (open_end (f.open_end ++ piece) ++ bytes_of calls))
    ∙ ap (λ l. f.to_come ++ l) (sym (blocks-append (f.open_end ++ piece) (bytes_of calls)) ∙ ap blocks (append_assoc f.open_end piece (bytes_of calls)))
run f (next ∷ calls) silent =
    append_assoc (take 1 f.to_come) (handed_out (taken f) calls) (after_calls (taken f) calls).to_come
    ∙ ap (λ l. take 1 f.to_come ++ l) (run (taken f) calls silent)
    ∙ sym (append_assoc (take 1 f.to_come) (drop 1 f.to_come) (blocks (f.open_end ++ bytes_of calls)))
    ∙ ap (λ l. l ++ blocks (f.open_end ++ bytes_of calls)) (take-append-drop 1 f.to_come)

pub any_pieces : (calls : List Call) → handed_out blank calls ++ (after_calls blank calls).to_come ≡ blocks (bytes_of calls)
any_pieces calls = run blank calls refl

ends : (f : Framed) (calls : List Call) → open_end f.open_end ≡ f.open_end → (after_calls f calls).open_end ≡ open_end (f.open_end ++ bytes_of calls)
ends f [] settled = sym settled ∙ ap open_end (sym (append-nil f.open_end))
ends f (feed piece ∷ calls) settled =
    ends (fed f piece) calls (open_end-open_end (f.open_end ++ piece))
    ∙ sym (open_end-append (f.open_end ++ piece) (bytes_of calls))
    ∙ ap open_end (append_assoc f.open_end piece (bytes_of calls))
ends f (next ∷ calls) settled = ends (taken f) calls settled

pub any_end : (calls : List Call) → (after_calls blank calls).open_end ≡ open_end (bytes_of calls)
any_end calls = ends blank calls refl

-- where a feed is refused, what was handed out and what is to come is the front of the events
pub any_refusal : (calls : List Call) (piece : List ℕ) (to_come : List FramingEvent) → AddsFront (after_calls blank calls).to_come to_come (blocks ((after_calls blank calls).open_end ++ piece)) → IsFront (handed_out blank calls ++ to_come) (blocks (bytes_of calls ++ piece))
any_refusal calls piece to_come adds =
    let out : List FramingEvent = handed_out blank calls in
    let f : Framed = after_calls blank calls in
    record {
      rest = adds.missed;
      whole =
          blocks-append (bytes_of calls) piece
          ∙ ap (λ l. l ++ blocks (open_end (bytes_of calls) ++ piece)) (sym (any_pieces calls))
          ∙ ap (λ l. (out ++ f.to_come) ++ l) (ap (λ l. blocks (l ++ piece)) (sym (any_end calls)) ∙ adds.front)
          ∙ sym (append_assoc (out ++ f.to_come) adds.added adds.missed)
          ∙ ap (λ l. l ++ adds.missed) (append_assoc out f.to_come adds.added ∙ ap (λ l. out ++ l) (sym adds.grows));
    }

-- the events of a stream are the front of those of any longer one
pub front_stays : (s more : List ℕ) → IsFront (blocks s) (blocks (s ++ more))
front_stays s more = record { rest = blocks (open_end s ++ more); whole = blocks-append s more }
