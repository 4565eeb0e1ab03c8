-- The steps of a book's history, and the connections of a world that begins.
use Rattle.std.proofs.Common.{◌≡◌, ℕ, zero, suc, ◌+◌, ◌<◌, ◌≤◌, List, [], ◌∷◌, ◌++◌, length, map, take, get_or, slice_get, Some, sym, ap, ◌∙◌, subst, arith}
use Rattle.std.proofs.lemmas.List.{map-append, take_more}
use Rattle.event_log.specs.declared.entry.Entry.{Entry}
use Rattle.event_log.specs.declared.entry.Entry.TheVariants.{Arrival, Take, Settle, Cancel, Deploy}
use Rattle.event_log.specs.History.{History, entry_at}
use Rattle.event_log.specs.Legal.{IsLegal}
use Rattle.event_log.specs.inner.Legal.{IsSound}
use Rattle.event_log.proofs.Following.{entry-since, follows-since, take-whole}
use Rattle.engine_model.specs.declared.connection.Connected.{Connected}
use Rattle.engine_model.specs.declared.step.Step.{Step}
use Rattle.engine_model.specs.Converse.{IsRunOf}
use Rattle.engine_model.specs.inner.Converse.{CameInBlock, KeepsTo, step_of, steps_of}
use Rattle.engine_model.specs.Run.{silent}
use Rattle.engine_model.specs.Steps.{frame_events_max}
use Rattle.engine_model.specs.Turn.{Turn}
use Rattle.engine_model.specs.inner.View.{connection_of, turn_by}
use Rattle.engine_model.proofs.Reaching.{reaches}

-- the text of an arrival that was booked came in a block
pub came : (h : History) (place : ℕ) (e : Entry) → IsLegal h → Some e ≡ slice_get h.entries place → CameInBlock e
came h place (Arrival conn channel raw told) legal at = (follows-since h legal place (Arrival conn channel raw told) (sym at)).possible.plain
came h place (Take ticket now) legal at = tt
came h place (Settle outcome ticket now state) legal at = tt
came h place (Cancel number among mask) legal at = tt
came h place (Deploy plan) legal at = tt

-- an entry that is held, by its place
pub at : (h : History) (k first : ℕ) (e : Entry) → first ≡ h.opening.places → Some e ≡ entry_at h (first + k) → Some e ≡ slice_get h.entries k
at h k first e is there = there ∙ (ap (λ n. entry_at h (n + k)) is ∙ entry-since h k)

take-push : {A : Type 0} (xs : List A) (i : ℕ) (x : A) → slice_get xs i ≡ Some x → take (suc i) xs ≡ take i xs ++ x ∷ []
take-push [] i x is = absurd cc
take-push (y ∷ ys) zero x is = let same : y ≡ x = cc in ap (λ z. z ∷ []) same
take-push (y ∷ ys) (suc i) x is = ap (λ l. y ∷ l) (take-push ys i x is)

-- one step more
pub steps-more : (entries : List Entry) (place : ℕ) (e : Entry) (items items' : List Step) (s : Step) → Some e ≡ slice_get entries place → map turn_by items ≡ map step_of (take place entries) → items' ≡ items ++ s ∷ []
    → turn_by s ≡ step_of e → map turn_by items' ≡ map step_of (take (place + 1) entries)
steps-more entries place e items items' s at same grown one =
    let next : suc place ≡ place + 1 = omega arith in
    ap (map turn_by) grown ∙ map-append turn_by items (s ∷ []) ∙ ap (λ l. l ++ turn_by s ∷ []) same ∙ ap (λ t. map step_of (take place entries) ++ t ∷ []) one
    ∙ sym (map-append step_of (take place entries) (e ∷ [])) ∙ ap (map step_of) (sym (take-push entries place e (sym at)) ∙ ap (λ n. take n entries) next)

-- all of them
pub steps-all : (h : History) (n : ℕ) (items : List Step) → n ≡ length h.entries → map turn_by items ≡ map step_of (take n h.entries) → map turn_by items ≡ steps_of h
steps-all h n items all same = same ∙ ap (λ k. map step_of (take k h.entries)) all ∙ ap (map step_of) (take-whole h.entries)

-- a run of them has the history
pub reached-by : (h : History) (channels : List ℕ) (steps : List Turn) → steps ≡ steps_of h → IsSound h → h.opening.events_max ≤ 1000000 → KeepsTo channels h.entries → IsRunOf steps h channels
unfolding frame_events_max
reached-by h channels steps are sound few keep =
    let room = sound.room in
    subst (λ l. IsRunOf l h channels) (sym are) (reaches h channels sound.legal keep (omega (arith, room, few)))

-- one connection more
pub silent-more : (channels : List ℕ) (i m : ℕ) (cs cs' : List Connected) (c : Connected) → i < length channels → map connection_of cs ≡ map silent (take i channels) → cs' ≡ cs ++ c ∷ []
    → connection_of c ≡ silent (get_or channels i m) → map connection_of cs' ≡ map silent (take (i + 1) channels)
silent-more channels i m cs cs' c inside same grown one =
    ap (map connection_of) grown ∙ map-append connection_of cs (c ∷ []) ∙ ap (λ l. l ++ connection_of c ∷ []) same
    ∙ ap (λ d. map silent (take i channels) ++ d ∷ []) one
    ∙ sym (map-append silent (take i channels) (get_or channels i m ∷ [])) ∙ ap (map silent) (sym (take_more channels i m inside))
