-- An arrival at the moment of a book, also behind one for which there was no room.
use Rattle.std.proofs.Common.{◌≡◌, ◌≢◌, ◌↔◌, ◌⊎◌, ◌≤◌, ◌<◌, ◌+◌, ◌*◌, ◌&&◌, ◌||◌, not, nat_lt, nat_le, true, false, ℕ, List, [], ◌∷◌, ◌++◌, length, max, map, find, slice_get, None, Some, Result, Ok, Err, IfOk, IsErrOf, OnErr, OnOk, refl, ap, sym, ◌∙◌, subst, inl, inr, arith, append_assoc}
use Rattle.std.proofs.lemmas.List.{append-nil}
use Rattle.judge_core.specs.declared.judged.Judged.{Judged}
use Rattle.event_log.specs.Event.{Does, Event, MemoryIsLast, Refusal, Reply, arrive}
use Rattle.event_log.specs.History.{History, next_place, plan_in_force}
use Rattle.book_core.specs.Receiving.{IsReceipt, arrival_reply}
use Rattle.book_core.specs.declared.receipt.NotBooked.{NotBooked}
use Rattle.book_core.specs.declared.receipt.NotBooked.TheVariants as not_booked
use Rattle.book_core.specs.declared.receipt.Receipt.{Receipt}
use Rattle.ghost_log.specs.Seats.{entries_of}
use Rattle.ghost_log.proofs.Seats.{entries-append}
use Rattle.book_lock.specs.Log.{Arrives, Calls, Log, SeatView, after_log, own_entry}
use Rattle.book_lock.specs.inner.Arriving.{ArrivesHere}

-- an arrival behind one for which there was no room is one call: what others did between the two is done before it
pub full_then : (h : History) (conn : ℕ) (judged : Judged) (book' : History) (x y z : SeatView) (r : Result Receipt NotBooked)
    → Arrives h conn judged x y (Err not_booked.Full) → ArrivesHere h conn judged book' y z r → ArrivesHere h conn judged book' x z r
full_then h conn judged book' x y z r first then =
    let e : Event = arrive conn judged.channel judged.raw in
    let none : y.seen ≡ x.seen ++ first.call.others = first.call.seen ∙ append-nil (x.seen ++ first.call.others) in
    let whole : y.seen ++ then.arrives.call.others ≡ x.seen ++ (first.call.others ++ then.arrives.call.others) =
    ap (λ (w : Log). w ++ then.arrives.call.others) none ∙ append_assoc x.seen first.call.others then.arrives.call.others in
    let call : Calls h e y z (arrival_reply r) = then.arrives.call in
    let number : y.number ≡ x.number = first.call.number in
    record {
      arrives = record {
        call = record {
          number = call.number ∙ number;
          others = first.call.others ++ call.others;
          none_own =
              entries-append x.number first.call.others call.others
              ∙ ap (λ w. w ++ entries_of x.number call.others) first.call.none_own
              ∙ subst (λ (n : ℕ). entries_of n call.others ≡ []) number call.none_own;
          seen =
              call.seen
              ∙ ap (λ (w : Log). w ++ own_entry y.number e (arrival_reply r)) whole
              ∙ ap (λ (n : ℕ). (x.seen ++ (first.call.others ++ call.others)) ++ own_entry n e (arrival_reply r)) number;
          legal = call.legal;
          does = subst (λ (w : Log). Does e (after_log h w) (after_log h z.seen) (arrival_reply r)) whole call.does;
          memory = subst (λ (w : Log). MemoryIsLast e (after_log h w) (arrival_reply r)) whole call.memory;
        };
        receipt = subst (λ (w : Log). IfOk r (IsReceipt (next_place (after_log h w)) conn judged.channel judged.raw)) whole then.arrives.receipt;
        plan = subst (λ (w : Log). IsErrOf r not_booked.PlanChanged ↔ judged.plan ≢ plan_in_force (after_log h w)) whole then.arrives.plan;
        same_plan = subst (λ (w : Log). IsErrOf r not_booked.Full → judged.plan ≡ plan_in_force (after_log h w)) whole then.arrives.same_plan;
      };
      moment = ap (after_log h) (sym whole) ∙ then.moment;
    }
