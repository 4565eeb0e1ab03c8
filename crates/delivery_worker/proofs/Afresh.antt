-- One attempt after another, each with nothing left of what was received before it.
use Rattle.std.proofs.Common.{◌≡◌, ◌≤◌, ℕ, ◌+◌, Bool, true, false, if◌then◌else◌, map, List, [], ◌∷◌, ◌++◌, All, Option, None, Some, refl, sym, subst, ap, ◌∙◌, arith}
use Rattle.std.specs.List.{flat_map}
use Rattle.std.specs.Io.KnownBytes.{Appends, Keeps}
use Rattle.std.proofs.KnownBytes.{Appends-kept, Appends-nil, Appends-trans}
use Rattle.std.proofs.lemmas.List.{map-append}
use Rattle.std.proofs.lemmas.List.Elements.{All-nil, All-push}
use Rattle.book_lock.specs.Log.{SeatView}
use Rattle.book_lock.specs.Shares.{Made, StationView}
use Rattle.event_log.specs.History.{History}
use Rattle.dest_queue.specs.declared.Outcome.{Outcome}
use Rattle.delivery_worker.specs.declared.report.DeliverReport.{DeliverReport}
use Rattle.mllp_frame.specs.Event.{FramingEvent}
use Rattle.mllp_frame.specs.inner.Framed.{Framed, blank}
use Rattle.delivery_worker.specs.Stream.{IsFrontOf}
use Rattle.delivery_worker.specs.inner.Stream.{After, Goes}
use Rattle.delivery_worker.specs.Delivering.{Attempt, ReportsAttempts, sent_by}
use Rattle.delivery_worker.specs.inner.Delivering.{DeliversAfresh, Exchanged, IsFresh, Tries, counted, no_attempts, way_of}
use Rattle.delivery_worker.specs.Turns.{DeliversInLog}
use Rattle.delivery_worker.proofs.InLog.{no_more_turns, no_turn, turns_then}
use Rattle.delivery_worker.proofs.Delivered.{counted_sum, counted_taken, flat_one, none_sent, tells_more}

-- the attempt of an exchange
abbrev pub attempt_of : Exchanged → Attempt
attempt_of e = e.attempt

-- what was read is at the front of what was received
after_front : (new : Option Framed) (got : List ℕ) (read : List FramingEvent) → After new got read → IsFrontOf got read
after_front None got read a = a
after_front (Some f) got read a = (f.to_come, a.events)

-- so it is where nothing was received before
read_afresh : (anew : Bool) (new : Option Framed) (got : List ℕ) (read : List FramingEvent) → Goes (if anew then None else Some blank) new got read → IsFrontOf got read
read_afresh true new got read goes = after_front new got read (goes [] [] (refl, refl))
read_afresh false new got read goes = after_front new got read (goes [] [] (record { events = refl; left_open = refl }))

-- nothing was sent or received before an attempt, and the framer was a blank one
pub tries_afresh : (h : History) (d : ℕ) (old new : Option Framed) (before sent sends earlier log logs : Option (List ℕ)) (begun ended : SeatView) (o : Outcome) → old ≡ Some blank
    → Keeps before sent → Keeps earlier log → (t : Tries old new sent sends log logs o) × DeliversInLog h d begun ended (t.attempt ∷ [])
    → (t : Tries (Some blank) new before sends earlier logs o) × DeliversInLog h d begun ended (t.attempt ∷ [])
tries_afresh h d old new before sent sends earlier log logs begun ended o is same_sent same_log tried =
    let t = tried.0 in (
      record {
        attempt = t.attempt;
        outcome = t.outcome;
        sends_block = Appends-trans before sent sends [] _ (none_sent before sent same_sent) t.sends_block;
        was_kept = λ _. refl;
        is_anew = t.is_anew;
        is_open = λ _. refl;
        got = t.got;
        logged = Appends-trans earlier log logs [] _ (none_sent earlier log same_log) t.logged;
        goes = subst (λ (f : Option Framed). Goes (way_of t.attempt f) new t.got t.attempt.last.read) is t.goes;
      },
      tried.1,
    )

-- From the start of delivering on: the attempts are counted, they are the takes of the station and its turns in the log, they
-- sent what was sent, and what was received came in them.
pub record SoFar (h : History) (d : ℕ) (begin now log logs : Option (List ℕ)) (first made : StationView) (turns : ℕ) (r : DeliverReport) : Type 0 where
  pub exchanges : List Exchanged
  pub fresh : All IsFresh exchanges
  pub tells : ReportsAttempts (map attempt_of exchanges) r
  pub sent : Appends begin now (flat_map (λ e. sent_by e.attempt) exchanges)
  pub logged : Appends log logs (flat_map (λ e. e.received) exchanges)
  pub in_log : DeliversInLog h d first.seat made.seat (map attempt_of exchanges)
  pub sum : r.taken ≡ r.delivered + r.again + r.rejected
  pub few : r.taken ≤ turns
  pub taken : made.counts.takes ≡ first.counts.takes + r.taken
  pub settled_least : first.counts.settlements ≤ made.counts.settlements
  pub settled_most : made.counts.settlements ≤ first.counts.settlements + r.taken

-- at the start
pub starts : (h : History) (d : ℕ) (begin log : Option (List ℕ)) (first : StationView) (r : DeliverReport) → r ≡ no_attempts → SoFar h d begin begin log log first first 0 r
starts h d begin log first r new =
    subst (λ (s : DeliverReport). SoFar h d begin begin log log first first 0 s) (sym new) (record {
      exchanges = [];
      fresh = All-nil IsFresh;
      tells = record { taken = refl; delivered = refl; again = refl; rejected = refl };
      sent = Appends-nil begin;
      logged = Appends-nil log;
      in_log = no_turn h d first.seat first.seat refl;
      sum = refl;
      few = omega arith;
      taken = omega arith;
      settled_least = omega arith;
      settled_most = omega arith;
    })

-- after one more attempt
pub attempted : (h : History) (d : ℕ) (new : Option Framed) (begin mid now log between logs : Option (List ℕ)) (first made more : StationView) (turns : ℕ) (r s : DeliverReport) (o : Outcome)
    → SoFar h d begin mid log between first made turns r
    → (t : Tries (Some blank) new mid now between logs o) × DeliversInLog h d made.seat more.seat (t.attempt ∷ []) → more.counts.takes ≡ made.counts.takes + 1
    → (made.counts.settlements ≤ more.counts.settlements) × (more.counts.settlements ≤ made.counts.settlements + 1) → s ≡ counted o r
    → SoFar h d begin now log logs first more (turns + 1) s
attempted h d new begin mid now log between logs first made more turns r s o f turn takes settled is =
    let one = turn.0 in
    let last : Exchanged = record { attempt = one.attempt; received = one.got } in
    subst (λ (t : DeliverReport). SoFar h d begin now log logs first more (turns + 1) t) (sym is) (record {
      exchanges = f.exchanges ++ last ∷ [];
      fresh = All-push IsFresh f.exchanges last f.fresh (read_afresh one.attempt.anew new one.got one.attempt.last.read one.goes);
      tells = subst (λ (l : List Attempt). ReportsAttempts l (counted o r)) (sym (map-append attempt_of f.exchanges (last ∷ [])))
          (tells_more (map attempt_of f.exchanges) r one.attempt o one.outcome f.tells);
      sent = subst (λ (l : List ℕ). Appends begin now l) (sym (flat_one (λ (e : Exchanged). sent_by e.attempt) f.exchanges last))
          (Appends-trans begin mid now _ _ f.sent one.sends_block);
      logged = subst (λ (l : List ℕ). Appends log logs l) (sym (flat_one (λ (e : Exchanged). e.received) f.exchanges last))
          (Appends-trans log between logs _ _ f.logged one.logged);
      in_log = subst (λ (l : List Attempt). DeliversInLog h d first.seat more.seat l) (sym (map-append attempt_of f.exchanges (last ∷ [])))
          (turns_then h d first.seat made.seat more.seat (map attempt_of f.exchanges) (one.attempt ∷ []) f.in_log turn.1);
      sum = counted_sum o r f.sum;
      few = omega (arith, counted_taken o r, f.few);
      taken = omega (arith, counted_taken o r, f.taken, takes);
      settled_least = omega (arith, f.settled_least, settled.0);
      settled_most = omega (arith, counted_taken o r, f.settled_most, settled.1);
    })

-- after a turn without an attempt
pub paused : (h : History) (d : ℕ) (begin mid now log between logs : Option (List ℕ)) (first made more : StationView) (turns : ℕ) (r s : DeliverReport)
    → SoFar h d begin mid log between first made turns r → more.counts ≡ made.counts → DeliversInLog h d made.seat more.seat []
    → Keeps mid now × Keeps between logs → s ≡ r → SoFar h d begin now log logs first more (turns + 1) s
paused h d begin mid now log between logs first made more turns r s f same in_log kept is =
    let takes : more.counts.takes ≡ made.counts.takes = ap (λ (m : Made). m.takes) same in
    let settlements : more.counts.settlements ≡ made.counts.settlements = ap (λ (m : Made). m.settlements) same in
    subst (λ (t : DeliverReport). SoFar h d begin now log logs first more (turns + 1) t) (sym is) (record {
      exchanges = f.exchanges;
      fresh = f.fresh;
      tells = f.tells;
      sent = Appends-kept begin mid now _ f.sent kept.0;
      logged = Appends-kept log between logs _ f.logged kept.1;
      in_log = no_more_turns h d first.seat made.seat more.seat (map attempt_of f.exchanges) f.in_log in_log;
      sum = f.sum;
      few = omega (arith, f.few);
      taken = omega (arith, f.taken, takes);
      settled_least = omega (arith, f.settled_least, settlements);
      settled_most = omega (arith, f.settled_most, settlements);
    })

-- at the end
pub delivers : (h : History) (d : ℕ) (begin mid now log between logs : Option (List ℕ)) (first made : StationView) (end : SeatView) (turns : ℕ) (r s : DeliverReport)
    → SoFar h d begin mid log between first made turns r → DeliversInLog h d made.seat end [] → Keeps mid now → Keeps between logs
    → s.taken ≡ r.taken → s.delivered ≡ r.delivered → s.again ≡ r.again → s.rejected ≡ r.rejected
    → (t : DeliversAfresh begin now log logs s) × DeliversInLog h d first.seat end (map (λ e. e.attempt) t.exchanges)
delivers h d begin mid now log between logs first made end turns r s f in_log same_sent same_log taken delivered again rejected = (
  record {
    exchanges = f.exchanges;
    fresh = f.fresh;
    tells = record {
      taken = taken ∙ f.tells.taken;
      delivered = delivered ∙ f.tells.delivered;
      again = again ∙ f.tells.again;
      rejected = rejected ∙ f.tells.rejected;
    };
    sends_blocks = Appends-kept begin mid now _ f.sent same_sent;
    logged = Appends-kept log between logs _ f.logged same_log;
  },
  no_more_turns h d first.seat made.seat end (map attempt_of f.exchanges) f.in_log in_log,
)
