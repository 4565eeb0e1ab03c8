-- A legal history is what the sequential engine gives of its events.
use Rattle.std.proofs.Common.{◌≡◌, List, [], ◌∷◌, ◌++◌, length, take, map, Some, refl, sym, ◌∙◌, ap, subst, arith}
use Rattle.std.specs.Prelude.{slice_get}
use Rattle.std.proofs.lemmas.List.{append-nil, append_assoc}
use Rattle.event_log.specs.declared.entry.Entry.{Entry}
use Rattle.event_log.specs.History.{History, begun, followed_by}
use Rattle.event_log.specs.Legal.{IsLegal, MayFollow}
use Rattle.event_log.specs.Event.{event_of, run}
use Rattle.event_log.specs.Replay.{replay}
use Rattle.event_log.proofs.Events.{next-again}
use Rattle.event_log.proofs.Following.{follows-since, take-below, take-whole}

-- the item after the first ones
get-after : {A : Type 0} (xs ys : List A) (x : A) → slice_get (xs ++ x ∷ ys) (length xs) ≡ Some x
get-after [] ys x = refl
get-after (z ∷ xs) ys x = get-after xs ys x

-- the first ones
take-before : {A : Type 0} (xs ys : List A) → take (length xs) (xs ++ ys) ≡ xs
take-before xs ys = take-below xs ys (length xs) (omega arith) ∙ take-whole xs

-- a history with these entries more
abbrev of_snapshot : History → List Entry → History
of_snapshot h es = record { opening = h.opening; entries = h.entries ++ es }

-- the run over the events of the entries that follow gives them
run-again : (h : History) (es : List Entry) → IsLegal (of_snapshot h es) → run h (map event_of es) ≡ of_snapshot h es
run-again h [] legal = ap (λ xs. record { opening = h.opening; entries = xs }) (sym (append-nil h.entries))
run-again h (e ∷ es) legal =
    let may : MayFollow h e = subst (λ xs. MayFollow (record { opening = h.opening; entries = xs }) e) (take-before h.entries (e ∷ es)) (follows-since (of_snapshot h (e ∷ es)) legal (length h.entries) e (get-after h.entries es e)) in
    let joined : h.entries ++ e ∷ [] ++ es ≡ h.entries ++ (e ∷ es) = append_assoc h.entries (e ∷ []) es in
    ap (λ x. run x (map event_of es)) (next-again h e may)
    ∙ (run-again (followed_by h e) es (subst (λ xs. IsLegal (record { opening = h.opening; entries = xs })) (sym joined) legal)
    ∙ ap (λ xs. record { opening = h.opening; entries = xs }) joined)

-- a legal history is its own replay
pub replay-same : (h : History) → IsLegal h → replay h ≡ h
replay-same h legal = run-again (begun h.opening) h.entries legal
