-- The channels of connections.
use Rattle.std.proofs.Common.{◌≡◌, ℕ, zero, suc, cond, List, [], ◌∷◌, drop, map, slice_get, Option, None, Some, Result, Ok, Err, inl, inr, refl, sym, ap, ◌∙◌, subst, eq-eqb}
use Rattle.std.specs.List.{AllByRecursion, cons_option, filter_map}
use Rattle.std.specs.Option.{option_map, option_map_or}
use Rattle.std.proofs.lemmas.Option.{same_Some, slice_get-map}
use Rattle.conn_core.specs.declared.booking.Unbooked.{Unbooked}
use Rattle.event_log.specs.declared.entry.Entry.{Entry}
use Rattle.event_log.specs.declared.entry.Entry.TheVariants.{Arrival, Take, Settle, Cancel, Deploy}
use Rattle.event_log.specs.declared.entry.Told.{Told}
use Rattle.conn_core.specs.Messages.{BookedMessage, booked, booked_with}
use Rattle.conn_core.specs.Replies.{Answer}
use Rattle.engine_model.specs.Run.{Connection, Run, arrival_on, arrivals_on, booked_since, folded_at}
use Rattle.engine_model.specs.inner.Converse.{HaveChannels, KeepToOne, KeepsTo}
use Rattle.engine_model.specs.Promise.{RunInvariant}
use Rattle.engine_model.proofs.Places.{same_or_apart}

-- ---- of a run

others-kept : {B : Type 0} (P : B → Type 0) (ys : List B) (o : Option B) → AllByRecursion P (cons_option o ys) → AllByRecursion P ys
others-kept P ys None all = all
others-kept P ys (Some y) all = all.1

-- what holds of all that is kept holds of each
each-kept : {A B : Type 0} (f : A → Option B) (P : B → Type 0) (xs : List A) (place : ℕ) (x : A) (y : B) → AllByRecursion P (filter_map f xs) → slice_get xs place ≡ Some x → f x ≡ Some y → P y
each-kept f P [] place x y all got is = absurd cc
each-kept f P (z ∷ xs) zero x y all got is =
    let same : z ≡ x = cc in
    (subst (λ o. AllByRecursion P (cons_option o (filter_map f xs))) (ap f same ∙ is) all).0
each-kept f P (z ∷ xs) (suc place) x y all got is = each-kept f P xs place x y (others-kept P (filter_map f xs) (f z) all) got is

abbrev IsOn : ℕ → BookedMessage → Type 0
IsOn channel m = m.channel ≡ channel

one-on : (conn channel : ℕ) (raw : List ℕ) (o : Result Told Unbooked) (ms : List BookedMessage) → AllByRecursion (IsOn channel) ms → AllByRecursion (IsOn channel) (cons_option (booked_with conn channel raw o) ms)
one-on conn channel raw (Ok told) ms all = (refl, all)
one-on conn channel raw (Err refusal) ms all = all

booked-on : (conn channel : ℕ) (answers : List Answer) → AllByRecursion (IsOn channel) (booked conn channel answers)
booked-on conn channel [] = tt
booked-on conn channel (a ∷ answers) = one-on conn channel a.raw a.outcome (booked conn channel answers) (booked-on conn channel answers)

-- an arrival of a connection is one of its own
own : (conn channel : ℕ) (raw : List ℕ) (told : Told) → arrival_on conn (Arrival conn channel raw told) ≡ Some (record { conn = conn; channel = channel; raw = raw; told = told })
own conn channel raw told =
    let one : BookedMessage = record { conn = conn; channel = channel; raw = raw; told = told } in
    ap (λ b. cond b (Some one) None) (eq-eqb conn conn refl)

-- each connection of a run keeps to its channel
pub run-keeps : (r : Run) → RunInvariant r → KeepsTo (map (λ (c : Connection). c.channel) r.connections) r.history.entries
run-keeps r word = record { keeps = λ place conn channel raw told got. by place conn channel raw told got (slice_get r.connections conn) refl (word.booked conn) }
  where
    by : (place conn channel : ℕ) (raw : List ℕ) (told : Told) → slice_get r.history.entries place ≡ Some (Arrival conn channel raw told) → (o : Option Connection) → slice_get r.connections conn ≡ o
        → arrivals_on conn r.history ≡ option_map_or (booked_since (folded_at r conn) conn) o [] → slice_get (map (λ (c : Connection). c.channel) r.connections) conn ≡ Some channel
    by place conn channel raw told got None at is =
        absurd (each-kept (arrival_on conn) (λ _. ⊥) r.history.entries place (Arrival conn channel raw told) (record { conn = conn; channel = channel; raw = raw; told = told })
        (subst (AllByRecursion (λ _. ⊥)) (sym is) tt) got (own conn channel raw told))
    by place conn channel raw told got (Some c) at is =
        let on : channel ≡ c.channel = each-kept (arrival_on conn) (IsOn c.channel) r.history.entries place (Arrival conn channel raw told) (record { conn = conn; channel = channel; raw = raw; told = told })
        (subst (AllByRecursion (IsOn c.channel)) (sym is) (booked-on conn c.channel (drop (folded_at r conn) c.answers))) got (own conn channel raw told) in
        slice_get-map (λ (c : Connection). c.channel) r.connections conn ∙ ap (option_map (λ (c : Connection). c.channel)) at ∙ ap (λ n. Some n) (sym on)

-- ---- of entries

-- a list with this at this place
put : List ℕ → ℕ → ℕ → List ℕ
put [] zero x = x ∷ []
put [] (suc i) x = 0 ∷ put [] i x
put (y ∷ ys) zero x = x ∷ ys
put (y ∷ ys) (suc i) x = y ∷ put ys i x

put-here : (l : List ℕ) (i x : ℕ) → slice_get (put l i x) i ≡ Some x
unfolding put
put-here [] zero x = refl
put-here [] (suc i) x = put-here [] i x
put-here (y ∷ ys) zero x = refl
put-here (y ∷ ys) (suc i) x = put-here ys i x

put-there : (l : List ℕ) (i j x y : ℕ) → (i ≡ j → ⊥) → slice_get l j ≡ Some y → slice_get (put l i x) j ≡ Some y
unfolding put
put-there [] i j x y apart got = absurd cc
put-there (z ∷ zs) zero zero x y apart got = absurd (apart refl)
put-there (z ∷ zs) zero (suc j) x y apart got = got
put-there (z ∷ zs) (suc i) zero x y apart got = got
put-there (z ∷ zs) (suc i) (suc j) x y apart got = put-there zs i j x y (λ e. apart (ap (λ n. suc n) e)) got

others-one : (e : Entry) (es : List Entry) → KeepToOne (e ∷ es) → KeepToOne es
others-one e es one = record { same = λ i j conn channel other raw text told reply at at'. one.same (suc i) (suc j) conn channel other raw text told reply at at' }

-- an entry that is no arrival
passed : (e : Entry) (es : List Entry) → ((conn channel : ℕ) (raw : List ℕ) (told : Told) → e ≡ Arrival conn channel raw told → ⊥) → HaveChannels es → HaveChannels (e ∷ es)
passed e es none rest = record { channels = rest.channels; keep = record { keeps = by } }
  where
    by : (place conn channel : ℕ) (raw : List ℕ) (told : Told) → slice_get (e ∷ es) place ≡ Some (Arrival conn channel raw told) → slice_get rest.channels conn ≡ Some channel
    by zero conn channel raw told at = absurd (none conn channel raw told (same_Some e (Arrival conn channel raw told) at))
    by (suc place) conn channel raw told at = rest.keep.keeps place conn channel raw told at

arrived : (conn channel : ℕ) (raw : List ℕ) (told : Told) (es : List Entry) → KeepToOne (Arrival conn channel raw told ∷ es) → HaveChannels es → HaveChannels (Arrival conn channel raw told ∷ es)
arrived conn channel raw told es one rest = record { channels = put rest.channels conn channel; keep = record { keeps = by } }
  where
    at-first : (other : ℕ) (channel' : ℕ) → conn ≡ other → channel ≡ channel' → slice_get (put rest.channels conn channel) other ≡ Some channel'
    at-first other channel' same on = subst (λ k. slice_get (put rest.channels conn channel) k ≡ Some channel') same (put-here rest.channels conn channel ∙ ap (λ n. Some n) on)

    by : (place other channel' : ℕ) (text : List ℕ) (reply : Told) → slice_get (Arrival conn channel raw told ∷ es) place ≡ Some (Arrival other channel' text reply) → slice_get (put rest.channels conn channel) other ≡ Some channel'
    by zero other channel' text reply at =
        let same : conn ≡ other = cc in
        let on : channel ≡ channel' = cc in
        at-first other channel' same on
    by (suc place) other channel' text reply at =
        elim (same_or_apart conn other) [
          | inl same ↦ at-first other channel' same (one.same 0 (suc place) conn channel channel' raw text told reply refl (at ∙ ap (λ k. Some (Arrival k channel' text reply)) (sym same)))
          | inr apart ↦ put-there rest.channels conn other channel channel' apart (rest.keep.keeps place other channel' text reply at)
        ]

-- where no connection has arrivals on two channels, there are channels to which they keep
pub have-channels : (es : List Entry) → KeepToOne es → HaveChannels es
have-channels [] one = record { channels = []; keep = record { keeps = λ place conn channel raw told at. absurd cc } }
have-channels (Arrival conn channel raw told ∷ es) one = arrived conn channel raw told es one (have-channels es (others-one (Arrival conn channel raw told) es one))
have-channels (Take ticket now ∷ es) one = passed (Take ticket now) es (λ conn channel raw told is. absurd cc) (have-channels es (others-one (Take ticket now) es one))
have-channels (Settle outcome ticket now state ∷ es) one = passed (Settle outcome ticket now state) es (λ conn channel raw told is. absurd cc) (have-channels es (others-one (Settle outcome ticket now state) es one))
have-channels (Cancel number among mask ∷ es) one = passed (Cancel number among mask) es (λ conn channel raw told is. absurd cc) (have-channels es (others-one (Cancel number among mask) es one))
have-channels (Deploy plan ∷ es) one = passed (Deploy plan) es (λ conn channel raw told is. absurd cc) (have-channels es (others-one (Deploy plan) es one))
