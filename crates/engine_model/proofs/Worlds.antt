-- What the calls of a world are, as steps of a run.
use Rattle.std.proofs.Common.{◌≡◌, ℕ, zero, suc, ◌+◌, ◌<◌, true, false, Bool, List, [], ◌∷◌, ◌++◌, All, length, map, take, drop, set, get_or, slice_get, None, Some, Result, Ok, Err, OnOk, inl, inr, refl, sym, ap, ◌∙◌, subst, append-nil, arith}
use Rattle.std.specs.List.{AllByRecursion}
use Rattle.std.specs.Option.{option_map}
use Rattle.std.specs.Result.{is_ok}
use Rattle.std.proofs.lemmas.List.{drop_all, length-map, map-append, take_more}
use Rattle.std.proofs.lemmas.List.Elements.{recursion_from_All}
use Rattle.plan_text.specs.Entries.{PlanEntry}
use Rattle.event_log.specs.declared.entry.Entry.{Entry}
use Rattle.event_log.specs.declared.entry.Entry.TheVariants.{Cancel, Deploy, Settle, Take}
use Rattle.event_log.specs.Answers.{settle_answer}
use Rattle.event_log.specs.Event.{Does, Event, Refusal, Reply, entry_of}
use Rattle.event_log.specs.Event as event
use Rattle.event_log.specs.Folding.{prune_answer, pruned}
use Rattle.event_log.specs.History.{History, deployed_by, followed_by, plan_in_force}
use Rattle.event_log.specs.inner.History.{snapshot_after}
use Rattle.event_log.proofs.Deploying.{channels-same}
use Rattle.event_log.proofs.Events.{deployable, does-follow, next-is, next-same}
use Rattle.event_log.proofs.Following.{plan-followed_by, plan-kept, take-whole}
use Rattle.engine_model.specs.declared.connection.Connected.{Connected}
use Rattle.engine_model.specs.inner.Handling.{HearsOn, answer_of}
use Rattle.engine_model.specs.Promise.{RunInvariant}
use Rattle.engine_model.specs.Run.{Connection, Run, silent}
use Rattle.engine_model.specs.inner.Run.{opened}
use Rattle.engine_model.specs.Steps.{Happens, HearsAt, HearsIf, IsNoArrival, Runs, Steps, folded_run}
use Rattle.engine_model.specs.Turn as turn
use Rattle.engine_model.specs.Turn.{Turn, chunk}
use Rattle.engine_model.specs.inner.View.{IsFit, IsOpen, IsWorld, connection_of, run_of, with_folded}
use Rattle.engine_model.proofs.Stepping.{opened-keeps, runs-append, step-keeps}

-- a loop over steps
pub runs-more : {A : Type 0} (f : A → Turn) (xs : List A) (i : ℕ) (x : A) (r between r' : Run) → i < length xs → x ≡ get_or xs i x
    → Runs (map f (take i xs)) r between → Steps (f x) between r' → Runs (map f (take (i + 1) xs)) r r'
runs-more f xs i x r between r' inside is one two =
    let grown : map f (take (i + 1) xs) ≡ map f (take i xs) ++ f x ∷ [] = ap (map f) (take_more xs i x inside) ∙ map-append f (take i xs) (get_or xs i x ∷ []) ∙ ap (λ y. map f (take i xs) ++ f y ∷ []) (sym is) in
    subst (λ l. Runs l r r') (sym grown) (runs-append (map f (take i xs)) (f x ∷ []) r between r' one (r', two, refl))

-- ---- an event

-- what a book makes of an event
pub does-step : (e : Event) → IsNoArrival e → (h h' : History) (cs : List Connected) (o : Result (Reply e) (Refusal e)) → Does e h h' o → Steps (turn.event e) (run_of h cs) (run_of h' cs)
does-step e none h h' cs (Ok reply) does = (none, inl (does.possible, ap (λ g. run_of g cs) (does.booked ∙ sym (next-is h e reply does.replied))))
does-step e none h h' cs (Err refusal) does = (none, by e none refusal does)
  where
    by : (e : Event) → IsNoArrival e → (refusal : Refusal e) → Does e h h' (Err refusal) → Happens e (run_of h cs) (run_of h' cs)
    by (event.arrive conn channel raw) none refusal does = absurd none
    by (event.settle ticket outcome now) none refusal does =
        let said : settle_answer h ticket outcome now ≡ Err refusal = elim does.refused [
          | inl is ↦ is
          | inr other ↦ elim other [ inl x ↦ absurd x | inr x ↦ absurd x ]
        ] in
        inl (tt, ap (λ g. run_of g cs) (does.unchanged ∙ sym (next-same h (event.settle ticket outcome now) refusal said)))
    by (event.take d now) none refusal does = inr (tt, ap (λ g. run_of g cs) does.unchanged)
    by (event.cancel number among) none refusal does = inr (tt, ap (λ g. run_of g cs) does.unchanged)
    by (event.deploy plan) none refusal does = inr (tt, ap (λ g. run_of g cs) does.unchanged)

-- the plan in force has as many channels
pub same-channels : (e : Event) → IsNoArrival e → (h h' : History) (o : Result (Reply e) (Refusal e)) → Does e h h' o → length (plan_in_force h').channels ≡ length (plan_in_force h).channels
same-channels e none h h' (Err refusal) does = ap (λ (g : History). length (plan_in_force g).channels) does.unchanged
same-channels e none h h' (Ok reply) does = ap (λ (g : History). length (plan_in_force g).channels) does.booked ∙ by e none reply does
  where
    kept : (x : Entry) → deployed_by x ≡ None → length (plan_in_force (followed_by h x)).channels ≡ length (plan_in_force h).channels
    kept x stays = ap (λ (p : PlanEntry). length p.channels) (plan-kept h x stays)

    by : (e : Event) → IsNoArrival e → (reply : Reply e) → Does e h h' (Ok reply) → length (plan_in_force (followed_by h (entry_of e reply))).channels ≡ length (plan_in_force h).channels
    by (event.arrive conn channel raw) none reply does = absurd none
    by (event.take d now) none ticket does = kept (Take ticket now) refl
    by (event.settle ticket outcome now) none state does = kept (Settle outcome ticket now state) refl
    by (event.cancel number among) none mask does = kept (Cancel number among mask) refl
    by (event.deploy plan) none done does =
        ap (λ (p : PlanEntry). length p.channels) (plan-followed_by h (Deploy plan)) ∙ channels-same h plan (deployable h plan (does-follow (event.deploy plan) h h' done does))

-- ---- prune

same-connections : (cs : List Connected) → map connection_of (map with_folded cs) ≡ map connection_of cs
same-connections [] = refl
same-connections (c ∷ cs) = ap (λ l. connection_of c ∷ l) (same-connections cs)

folded-there : (cs : List Connected) → map (λ (c : Connected). c.folded) (map with_folded cs) ≡ map (λ (c : Connection). length c.answers) (map connection_of cs)
folded-there [] = refl
folded-there (c ∷ cs) =
    ap (λ n. n ∷ map (λ (c : Connected). c.folded) (map with_folded cs)) (sym (length-map c.words.answers.items answer_of))
    ∙ ap (λ l. length (map answer_of c.words.answers.items) ∷ l) (folded-there cs)

-- what a book makes of a pruning
pub pruned-by : (h h' : History) (cs cs' : List Connected) (bound : ℕ) → prune_answer h bound ≡ None → h' ≡ pruned bound h → cs' ≡ map with_folded cs → Steps (turn.prune bound) (run_of h cs) (run_of h' cs')
pruned-by h h' cs cs' bound may is noted =
    let there : run_of (pruned bound h) (map with_folded cs) ≡ folded_run bound (run_of h cs) =
    ap (λ l. record { history = pruned bound h; connections = l; folded = map (λ (c : Connected). c.folded) (map with_folded cs) }) (same-connections cs)
    ∙ ap (λ l. record { history = pruned bound h; connections = map connection_of cs; folded = l }) (folded-there cs) in
    inl (may, ap (λ g. run_of g cs') is ∙ ap (λ l. run_of (pruned bound h) l) noted ∙ there)

pub unpruned : (h h' : History) (cs : List Connected) (bound : ℕ) → h' ≡ h → Steps (turn.prune bound) (run_of h cs) (run_of h' cs)
unpruned h h' cs bound left = inr (ap (λ g. run_of g cs) left)

-- ---- a chunk

set-same : {A : Type 0} (xs : List A) (i : ℕ) (x : A) → slice_get xs i ≡ Some x → set xs i x ≡ xs
set-same [] i x is = refl
set-same (y ∷ xs) zero x is = let same : y ≡ x = cc in ap (λ z. z ∷ xs) (sym same)
set-same (y ∷ xs) (suc i) x is = ap (λ l. y ∷ l) (set-same xs i x is)

map-set : {A B : Type 0} (f : A → B) (xs : List A) (i : ℕ) (x : A) → map f (set xs i x) ≡ set (map f xs) i (f x)
map-set f [] i x = refl
map-set f (y ∷ xs) zero x = refl
map-set f (y ∷ xs) (suc i) x = ap (λ l. f y ∷ l) (map-set f xs i x)

get-map : {A B : Type 0} (f : A → B) (xs : List A) (i : ℕ) → slice_get (map f xs) i ≡ option_map f (slice_get xs i)
get-map f [] i = refl
get-map f (y ∷ xs) zero = refl
get-map f (y ∷ xs) (suc i) = get-map f xs i

hears-if : (b : Bool) (conn : ℕ) (bytes : List ℕ) (now : ℕ) (h h' : History) (cs : List Connection) (folded : List ℕ) (c c' : Connection) → slice_get cs conn ≡ Some c → HearsOn b conn bytes now h h' c c'
    → HearsIf b conn bytes now (record { history = h; connections = cs; folded = folded }) (record { history = h'; connections = set cs conn c'; folded = folded }) c
hears-if true conn bytes now h h' cs folded c c' at heard =
    ap (λ g. record { history = g; connections = set cs conn c'; folded = folded }) heard.0
    ∙ ap (λ l. record { history = h; connections = l; folded = folded }) (ap (λ d. set cs conn d) heard.1 ∙ set-same cs conn c at)
hears-if false conn bytes now h h' cs folded c c' at heard = record { to = c'; only = refl; stays = refl; does = heard }

-- as many answers as before were given before the history was folded
folded-same : (cs : List Connected) (i : ℕ) (c c' : Connected) → slice_get cs i ≡ Some c → c'.folded ≡ c.folded → map (λ (c : Connected). c.folded) (set cs i c') ≡ map (λ (c : Connected). c.folded) cs
folded-same cs i c c' at same =
    let of : Connected → ℕ = λ c. c.folded in
    map-set of cs i c' ∙ ap (λ n. set (map of cs) i n) same ∙ set-same (map of cs) i c.folded (get-map of cs i ∙ ap (option_map of) at)

-- the connection of that number hears it
pub heard-by : (conn : ℕ) (bytes : List ℕ) (now : ℕ) (h h' : History) (cs : List Connected) (c c' : Connected) → slice_get cs conn ≡ Some c → HearsOn c.ended conn bytes now h h' (connection_of c) (connection_of c')
    → c'.folded ≡ c.folded → Steps (chunk conn bytes now) (run_of h cs) (run_of h' (set cs conn c'))
heard-by conn bytes now h h' cs c c' at heard same =
    let folded : List ℕ = map (λ (c : Connected). c.folded) cs in
    let there : slice_get (map connection_of cs) conn ≡ Some (connection_of c) = get-map connection_of cs conn ∙ ap (option_map connection_of) at in
    subst (λ f. HearsAt (slice_get (map connection_of cs) conn) conn bytes now (run_of h cs) (record { history = h'; connections = map connection_of (set cs conn c'); folded = f })) (sym (folded-same cs conn c c' at same))
    (subst (λ l. HearsAt (slice_get (map connection_of cs) conn) conn bytes now (run_of h cs) (record { history = h'; connections = l; folded = folded })) (sym (map-set connection_of cs conn c'))
    (subst (λ o. HearsAt o conn bytes now (run_of h cs) (record { history = h'; connections = set (map connection_of cs) conn (connection_of c'); folded = folded })) (sym there)
    (hears-if c.ended conn bytes now h h' (map connection_of cs) folded (connection_of c) (connection_of c') there heard)))

-- there is none
pub heard-nowhere : (conn : ℕ) (bytes : List ℕ) (now : ℕ) (h : History) (cs : List Connected) → slice_get cs conn ≡ None → Steps (chunk conn bytes now) (run_of h cs) (run_of h cs)
heard-nowhere conn bytes now h cs at =
    let there : slice_get (map connection_of cs) conn ≡ None = get-map connection_of cs conn ∙ ap (option_map connection_of) at in
    subst (λ o. HearsAt o conn bytes now (run_of h cs) (run_of h cs)) (sym there) refl

-- ---- a world stays one

fit-at : (n : ℕ) (cs : List Connected) (i : ℕ) (c : Connected) → AllByRecursion (IsFit n) cs → slice_get cs i ≡ Some c → IsFit n c
fit-at n [] i c all at = absurd cc
fit-at n (x ∷ cs) zero c all at = let same : x ≡ c = cc in subst (IsFit n) same all.0
fit-at n (x ∷ cs) (suc i) c all at = fit-at n cs i c all.1 at

-- one of its connections
pub world-at : (h : History) (cs : List Connected) (i : ℕ) (c : Connected) → IsWorld h cs → slice_get cs i ≡ Some c → IsFit (length (plan_in_force h).channels) c
world-at h cs i c w at = fit-at (length (plan_in_force h).channels) cs i c w.fit at

fit-set : (n : ℕ) (cs : List Connected) (i : ℕ) (c : Connected) → AllByRecursion (IsFit n) cs → IsFit n c → AllByRecursion (IsFit n) (set cs i c)
fit-set n [] i c all one = tt
fit-set n (x ∷ cs) zero c all one = (one, all.1)
fit-set n (x ∷ cs) (suc i) c all one = (all.0, fit-set n cs i c all.1 one)

-- after an event that is no chunk
pub world-on : (e : Event) → IsNoArrival e → (h h' : History) (cs : List Connected) (o : Result (Reply e) (Refusal e)) → IsWorld h cs → Does e h h' o → IsWorld h' cs
world-on e none h h' cs o w does =
    record {
      fit = subst (λ n. AllByRecursion (IsFit n) cs) (sym (same-channels e none h h' o does)) w.fit;
      word = step-keeps (turn.event e) (run_of h cs) (run_of h' cs) w.word (does-step e none h h' cs o does);
    }

-- after a chunk
pub world-heard : (turn : Turn) (h h' : History) (cs : List Connected) (i : ℕ) (c : Connected) → IsWorld h cs → Steps turn (run_of h cs) (run_of h' (set cs i c)) → plan_in_force h' ≡ plan_in_force h → IsFit (length (plan_in_force h).channels) c
    → IsWorld h' (set cs i c)
world-heard turn h h' cs i c w does same one =
    record {
      fit = subst (λ p. AllByRecursion (IsFit (length p.channels)) (set cs i c)) (sym same) (fit-set (length (plan_in_force h).channels) cs i c w.fit one);
      word = step-keeps turn (run_of h cs) (run_of h' (set cs i c)) w.word does;
    }

fit-folded : (n : ℕ) (cs : List Connected) → AllByRecursion (IsFit n) cs → AllByRecursion (IsFit n) (map with_folded cs)
fit-folded n [] all = tt
fit-folded n (c ∷ cs) all = (
  record {
    known = all.0.known;
    stands = λ is.
        let open_one = all.0.stands is in
        record { stays = open_one.stays; none_left = open_one.none_left; left_open = open_one.left_open; counted = open_one.counted; events = open_one.events; few = open_one.few; made = open_one.made };
  },
  fit-folded n cs all.1,
)

-- after a pruning
pub world-folded : (h h' : History) (cs cs' : List Connected) (bound : ℕ) → IsWorld h cs → prune_answer h bound ≡ None → h' ≡ pruned bound h → cs' ≡ map with_folded cs → IsWorld h' cs'
world-folded h h' cs cs' bound w may is noted =
    record {
      fit =
          subst (λ l. AllByRecursion (IsFit (length (plan_in_force h').channels)) l) (sym noted)
          (subst (λ (g : History). AllByRecursion (IsFit (length (plan_in_force g).channels)) (map with_folded cs)) (sym is) (fit-folded (length (plan_in_force h).channels) cs w.fit));
      word = step-keeps (turn.prune bound) (run_of h cs) (run_of h' cs') w.word (pruned-by h h' cs cs' bound may is noted);
    }

-- ---- the opened world

none-folded : (cs : List Connected) (channels : List ℕ) → map connection_of cs ≡ map silent channels → AllByRecursion (λ (c : Connected). c.folded ≡ 0) cs → map (λ (c : Connected). c.folded) cs ≡ map (λ (_ : ℕ). 0) channels
none-folded [] [] same none = refl
none-folded [] (m ∷ channels) same none = absurd cc
none-folded (c ∷ cs) [] same none = absurd cc
none-folded (c ∷ cs) (m ∷ channels) same none =
    let rest : map connection_of cs ≡ map silent channels = cc in
    ap (λ n. n ∷ map (λ (c : Connected). c.folded) cs) none.0 ∙ ap (λ l. 0 ∷ l) (none-folded cs channels rest none.1)

fit-open : (n : ℕ) (cs : List Connected) (channels : List ℕ) → map connection_of cs ≡ map silent channels → AllByRecursion (λ m. m < n) channels → AllByRecursion IsOpen cs → AllByRecursion (IsFit n) cs
fit-open n [] channels same known open_ones = tt
fit-open n (c ∷ cs) [] same known open_ones = absurd cc
fit-open n (c ∷ cs) (m ∷ channels) same known open_ones =
    let first : connection_of c ≡ silent m = cc in
    let rest : map connection_of cs ≡ map silent channels = cc in
    let channel : c.channel ≡ m = ap (λ (d : Connection). d.channel) first in
    (record { known = subst (λ k. k < n) (sym channel) known.0; stands = λ _. open_ones.0 }, fit-open n cs channels rest known.1 open_ones.1)

-- its run
pub opened-is : (plan : PlanEntry) (events_max : ℕ) (h : History) (channels : List ℕ) (cs : List Connected) → h ≡ snapshot_after plan events_max → map connection_of cs ≡ map silent channels → All (λ (c : Connected). c.folded ≡ 0) cs
    → run_of h cs ≡ opened plan events_max channels
opened-is plan events_max h channels cs fresh same none =
    ap (λ g. run_of g cs) fresh
    ∙ ap (λ l. record { history = snapshot_after plan events_max; connections = l; folded = map (λ (c : Connected). c.folded) cs }) same
    ∙ ap (λ l. record { history = snapshot_after plan events_max; connections = map silent channels; folded = l }) (none-folded cs channels same (recursion_from_All (λ (c : Connected). c.folded ≡ 0) cs none))

-- a world at first
pub world-opened : (plan : PlanEntry) (events_max : ℕ) (h : History) (channels : List ℕ) (cs : List Connected) → h ≡ snapshot_after plan events_max → map connection_of cs ≡ map silent channels
    → All (λ m. m < length plan.channels) channels → All IsOpen cs → All (λ (c : Connected). c.folded ≡ 0) cs → IsWorld h cs
world-opened plan events_max h channels cs fresh same known open_ones none =
    record {
      fit =
          subst (λ (g : History). AllByRecursion (IsFit (length (plan_in_force g).channels)) cs) (sym fresh)
          (fit-open (length plan.channels) cs channels same (recursion_from_All (λ m. m < length plan.channels) channels known) (recursion_from_All IsOpen cs open_ones));
      word = subst RunInvariant (sym (opened-is plan events_max h channels cs fresh same none)) (opened-keeps plan events_max channels);
    }

-- ---- where a connection stands

pub get-of : (xs : List Connected) (i : ℕ) (x : Connected) → i < length xs → x ≡ get_or xs i x → slice_get xs i ≡ Some x
get-of [] i x inside is = absurd (omega arith)
get-of (y ∷ ys) zero x inside is = ap (λ z. Some z) (sym is)
get-of (y ∷ ys) (suc i) x inside is = get-of ys i x (omega arith) is

pub none-at : (xs : List Connected) (i : ℕ) → (i < length xs → ⊥) → slice_get xs i ≡ None
none-at [] i past = refl
none-at (y ∷ ys) zero past = absurd (past (omega arith))
none-at (y ∷ ys) (suc i) past = none-at ys i (λ inside. past (omega arith))

-- ---- connections whose answers were given before the history was folded

abbrev noted_to : ℕ → List Connected → List Connected
noted_to i xs = map with_folded (take i xs) ++ drop i xs

noted-at : (xs : List Connected) (i : ℕ) (d : Connected) → i < length xs → set (noted_to i xs) i (with_folded (get_or (noted_to i xs) i d)) ≡ noted_to (suc i) xs
noted-at [] i d inside = absurd (omega arith)
noted-at (x ∷ xs) zero d inside = refl
noted-at (x ∷ xs) (suc i) d inside = ap (λ l. with_folded x ∷ l) (noted-at xs i d (omega arith))

-- one more is noted
pub noted-more : (xs ys : List Connected) (i n : ℕ) (d : Connected) → i < length xs → ys ≡ map with_folded (take i xs) ++ drop i xs → n ≡ length (get_or ys i d).words.answers.items
    → set ys i (record (get_or ys i d) { folded = n }) ≡ map with_folded (take (i + 1) xs) ++ drop (i + 1) xs
noted-more xs ys i n d inside so_far all =
    let next : suc i ≡ i + 1 = omega arith in
    ap (λ m. set ys i (record (get_or ys i d) { folded = m })) all
    ∙ ap (λ l. set l i (with_folded (get_or l i d))) so_far
    ∙ noted-at xs i d inside
    ∙ ap (λ k. noted_to k xs) next

-- all of them are noted
pub all-noted : (old lent new : List Connected) (n : ℕ) → n ≡ length old → lent ≡ old → new ≡ map with_folded lent → take n (new ++ drop (length new) old) ≡ map with_folded old
all-noted old lent new n size same noted =
    let all : List Connected = map with_folded old in
    let long : length all ≡ length old = length-map old with_folded in
    ap (λ l. take n (l ++ drop (length l) old)) (noted ∙ ap (map with_folded) same)
    ∙ ap (λ l. take n (all ++ l)) (drop_all (length all) old (omega (arith, long)))
    ∙ ap (take n) (append-nil all)
    ∙ ap (λ k. take k all) (size ∙ sym long)
    ∙ take-whole all

pub when-ok : {T E : Type 0} {P : Type 0} (o : Result T E) (b : Bool) → b ≡ is_ok o → b ≡ true → OnOk o P → P
when-ok (Ok x) b same holds p = p
when-ok (Err e) b same holds p = absurd cc
