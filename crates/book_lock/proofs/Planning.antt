-- Lemmas on the plan in force: it stays as long as the number of deployments does.
use Rattle.std.proofs.Common.{◌≡◌, ℕ, ◌≤◌, [], ◌∷◌, ◌++◌, refl, ap, sym, ◌∙◌, arith, append_assoc, length, subst, None}
use Rattle.plan_text.specs.Entries.{PlanEntry}
use Rattle.event_log.specs.declared.entry.Entry.{Entry}
use Rattle.event_log.specs.declared.entry.Entry.TheVariants as entry
use Rattle.event_log.specs.Deployment.{deployments}
use Rattle.event_log.specs.History.{History, deployed_by, followed_by, plan_in_force}
use Rattle.event_log.proofs.Following.{deployments-kept, deployments-more, plan-kept}
use Rattle.ghost_log.specs.Seats.{Agrees}
use Rattle.ghost_log.proofs.Seats.{rest_none}
use Rattle.book_lock.specs.declared.log_entry.LogEntry.{LogEntry}
use Rattle.book_lock.specs.declared.log_entry.LogEntry.TheVariants as log_entry
use Rattle.book_lock.specs.Log.{IsBookOf, IsLegalLog, Log, Looks, SeatView, after_log, with_entry}
use Rattle.book_lock.specs.inner.Planning.{WasInForce}

-- between two books: no fewer plans were deployed at the second, and where no more were, its plan in force is that of the first
record Goes (h k : History) : Type 0 where
  pub more : deployments h ≤ deployments k
  pub stays : deployments k ≡ deployments h → plan_in_force k ≡ plan_in_force h

kept : (h : History) (e : Entry) → deployed_by e ≡ None → Goes h (followed_by h e)
kept h e none = record { more = omega (arith, deployments-kept h e none); stays = λ _. plan-kept h e none }

goes_one : (h : History) (x : LogEntry) → Goes h (with_entry h x)
goes_one h (log_entry.Booked (entry.Arrival conn channel raw told)) = kept h (entry.Arrival conn channel raw told) refl
goes_one h (log_entry.Booked (entry.Take ticket now)) = kept h (entry.Take ticket now) refl
goes_one h (log_entry.Booked (entry.Settle outcome ticket now state)) = kept h (entry.Settle outcome ticket now state) refl
goes_one h (log_entry.Booked (entry.Cancel number among mask)) = kept h (entry.Cancel number among mask) refl
goes_one h (log_entry.Booked (entry.Deploy plan)) =
    let rise = deployments-more h plan in
    record { more = omega (arith, rise); stays = λ same. absurd (omega (arith, rise, same)) }
goes_one h (log_entry.Pruned before) = record { more = omega arith; stays = λ _. refl }
goes_one h (log_entry.Durable below) = record { more = omega arith; stays = λ _. refl }

goes : (h : History) (log : Log) → Goes h (after_log h log)
goes h [] = record { more = omega arith; stays = λ _. refl }
goes h (x ∷ xs) =
    let k = with_entry h x.1 in
    let one = goes_one h x.1 in
    let rest = goes k xs in
    record {
      more = omega (arith, one.more, rest.more);
      stays = λ same. rest.stays (omega (arith, one.more, rest.more, same)) ∙ one.stays (omega (arith, one.more, rest.more, same));
    }

pub after_both : (h : History) (xs ys : Log) → after_log h (xs ++ ys) ≡ after_log (after_log h xs) ys
after_both h [] ys = refl
after_both h (x ∷ xs) ys = after_both (with_entry h x.1) xs ys

-- A plan that was in force after some of what a seat has seen is so at a later book at which no more plans were deployed.
pub still_in_force : (h : History) (number : ℕ) (seen log : Log) (count : ℕ) (plan : PlanEntry) (book : History) → IsBookOf h log book → Agrees number seen log
    → deployments book ≡ count → WasInForce h seen count plan → plan ≡ plan_in_force book
still_in_force h number seen log count plan book was agreed same given =
    let there : History = after_log h given.before in
    let rest : Log = given.since ++ agreed.begins.0 in
    let whole : given.before ++ rest ≡ log = sym (append_assoc given.before given.since agreed.begins.0) ∙ (ap (λ w. w ++ agreed.begins.0) (sym given.is_seen) ∙ agreed.begins.1) in
    let is : book ≡ after_log there rest = was.is ∙ (ap (after_log h) (sym whole) ∙ after_both h given.before rest) in
    let count_is : deployments (after_log there rest) ≡ deployments there = ap deployments (sym is) ∙ (same ∙ sym given.counted) in
    given.in_force ∙ (sym ((goes there rest).stays count_is) ∙ ap plan_in_force (sym is))

-- a seat that is shown the log looks at the book
pub looked : (h : History) (old new : SeatView) (log : Log) (book : History) → IsBookOf h log book → Agrees old.number old.seen log → new ≡ record { number = old.number; seen = log }
    → Looks h old new
looked h old new log book was agreed is =
    let seen : new.seen ≡ log = ap (λ (s : SeatView). s.seen) is in record {
      number = ap (λ (s : SeatView). s.number) is;
      others = agreed.begins.0;
      none_own = rest_none old.number old.seen log agreed.begins (ap length (sym agreed.own));
      seen = seen ∙ sym agreed.begins.1;
      legal = subst (IsLegalLog h) (sym seen) was.legal;
    }
