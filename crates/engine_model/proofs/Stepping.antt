-- What a step keeps, and a run of steps.
use Rattle.std.proofs.Common.{◌≡◌, ◌≤◌, ℕ, zero, suc, List, [], ◌∷◌, ◌++◌, length, map, slice_get, get_or, Some, inl, inr, refl, sym, ap, ◌∙◌, subst, arith}
use Rattle.std.specs.Option.{option_map_or}
use Rattle.std.proofs.Math.Seq.{drop-length}
use Rattle.plan_text.specs.Entries.{PlanEntry}
use Rattle.event_log.proofs.Following.{legal-since}
use Rattle.event_log.specs.Folding.{pruned}
use Rattle.event_log.specs.History.{History, Snapshot, begun}
use Rattle.event_log.specs.inner.History.{blank}
use Rattle.event_log.specs.Event.{next}
use Rattle.conn_core.specs.Messages.{booked}
use Rattle.engine_model.specs.Run.{Connection, Run, booked_since, folded_at, silent, started}
use Rattle.engine_model.specs.inner.Run.{opened}
use Rattle.engine_model.specs.Turn.{Turn, chunk, event, prune}
use Rattle.engine_model.specs.Steps.{Runs, Steps, folded_run, with_history}
use Rattle.engine_model.specs.Promise.{AreRead, AreWritten, RunInvariant}
use Rattle.engine_model.proofs.Booking.{BringsNone, event-keeps}
use Rattle.engine_model.proofs.Hearing.{hears_at}

-- an event that brings no arrival
quiet : (r : Run) (h' : History) → BringsNone r.history h' → RunInvariant r → RunInvariant (with_history r h')
quiet r h' none word =
    record {
      legal = none.legal;
      read = word.read;
      written = word.written;
      booked = λ conn. none.arrivals conn ∙ word.booked conn;
      before = word.before;
    }

-- how many answers each connection had given
abbrev given : List Connection → List ℕ
given cs = map (λ (c : Connection). length c.answers) cs

given-at : (cs : List Connection) (k : ℕ) (c : Connection) → slice_get cs k ≡ Some c → get_or (given cs) k 0 ≡ length c.answers
given-at [] k c is = absurd cc
given-at (d ∷ cs) zero c is = let same : d ≡ c = cc in ap (λ (d : Connection). length d.answers) same
given-at (d ∷ cs) (suc k) c is = given-at cs k c is

none_since : (conn : ℕ) (cs : List Connection) (k : ℕ) → option_map_or (booked_since (get_or (given cs) k 0) conn) (slice_get cs k) [] ≡ []
none_since conn [] k = refl
none_since conn (c ∷ cs) zero = ap (booked conn c.channel) (drop-length c.answers)
none_since conn (c ∷ cs) (suc k) = none_since conn cs k

no_more : (n m : ℕ) → n ≡ m → n ≤ m
no_more n m same = omega (arith, same)

-- nothing is held of a history that is folded, and nothing was answered since
folding-keeps : (bound : ℕ) (r : Run) → RunInvariant r → RunInvariant (folded_run bound r)
folding-keeps bound r word =
    record {
      legal = legal-since (pruned bound r.history) (λ k e is. absurd cc);
      read = word.read;
      written = word.written;
      booked = λ conn. sym (none_since conn r.connections conn);
      before = λ conn c is. no_more (folded_at (folded_run bound r) conn) (length c.answers) (given-at r.connections conn c is);
    }

pub step-keeps : (step : Turn) (r r' : Run) → RunInvariant r → Steps step r r' → RunInvariant r'
step-keeps (chunk conn bytes now) r r' word does = hears_at (slice_get r.connections conn) conn bytes now r r' refl does word
step-keeps (event e) r r' word does =
    elim does.1 [
      | inl is ↦ subst RunInvariant (sym is.1) (quiet r (next r.history e) (event-keeps r.history e does.0 is.0 word.legal) word)
      | inr is ↦ subst RunInvariant (sym is.1) word
    ]
step-keeps (prune bound) r r' word does =
    elim does [
      | inl is ↦ subst RunInvariant (sym is.1) (folding-keeps bound r word)
      | inr is ↦ subst RunInvariant (sym is) word
    ]

pub runs-keep : (steps : List Turn) (r r' : Run) → RunInvariant r → Runs steps r r' → RunInvariant r'
runs-keep [] r r' word runs = subst RunInvariant (sym runs) word
runs-keep (step ∷ steps) r r' word runs = runs-keep steps runs.0 r' (step-keeps step r runs.0 word runs.1) runs.2

-- one run behind another
pub runs-append : (xs ys : List Turn) (r between r' : Run) → Runs xs r between → Runs ys between r' → Runs (xs ++ ys) r r'
runs-append [] ys r between r' one two = subst (λ (x : Run). Runs ys x r') one two
runs-append (x ∷ xs) ys r between r' one two = (one.0, one.1, runs-append xs ys one.0 between r' one.2 two)

-- a connection of the opened run is silent
silent_at : (channels : List ℕ) (k : ℕ) (c : Connection) → slice_get (map silent channels) k ≡ Some c → (channel : ℕ) × (silent channel ≡ c)
silent_at [] k c is = absurd cc
silent_at (channel ∷ channels) zero c is = (channel, cc)
silent_at (channel ∷ channels) (suc k) c is = silent_at channels k c is

abbrev none_yet : List ℕ → List ℕ
none_yet channels = map (λ _. 0) channels

none_folded : (channels : List ℕ) (k : ℕ) → get_or (none_yet channels) k 0 ≡ 0
none_folded [] k = refl
none_folded (channel ∷ channels) zero = refl
none_folded (channel ∷ channels) (suc k) = none_folded channels k

none_booked : (conn : ℕ) (channels : List ℕ) (k : ℕ) → option_map_or (booked_since (get_or (none_yet channels) k 0) conn) (slice_get (map silent channels) k) [] ≡ []
none_booked conn [] k = refl
none_booked conn (channel ∷ channels) zero = refl
none_booked conn (channel ∷ channels) (suc k) = none_booked conn channels k

none_before : (n m : ℕ) → n ≡ 0 → n ≤ m
none_before n m none = omega (arith, none)

pub started-keeps : (opening : Snapshot) (channels : List ℕ) → RunInvariant (started opening channels)
started-keeps opening channels =
    record {
      legal = legal-since (begun opening) (λ k e is. absurd cc);
      read = λ conn c is. let one = silent_at channels conn c is in subst (λ (c : Connection). AreRead c.ended c.stream c.answers) one.1 refl;
      written = λ conn c is. let one = silent_at channels conn c is in subst (λ (c : Connection). AreWritten c.ended conn c.answers c.output) one.1 refl;
      booked = λ conn. sym (none_booked conn channels conn);
      before = λ conn c is. none_before (folded_at (started opening channels) conn) (length c.answers) (none_folded channels conn);
    }

pub opened-keeps : (plan : PlanEntry) (events_max : ℕ) (channels : List ℕ) → RunInvariant (opened plan events_max channels)
opened-keeps plan events_max channels = started-keeps (blank plan events_max) channels
