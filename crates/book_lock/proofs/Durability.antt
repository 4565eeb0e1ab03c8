-- Lemmas on what of a shared book is durable, by its log.
use Rattle.std.specs.Prelude.{IfSome, Result, option_and_then, slice_get}
use Rattle.std.specs.Option.{option_map, option_map_or}
use Rattle.std.proofs.Common.{cond, nat_lt, Option, None, Some, Ok, Err, ◌≡◌, ◌⊎◌, inl, inr, ℕ, ◌+◌, ◌<◌, ◌≤◌, true, false, Bool, List, [], ◌∷◌, ◌++◌, length, refl, sym, ap, subst, ◌∙◌, arith, length-append, append_assoc}
use Rattle.std.proofs.lemmas.List.{append-nil}
use Rattle.event_log.specs.declared.entry.Entry.TheVariants as entry
use Rattle.dest_queue.specs.declared.SlotState.{SlotState}
use Rattle.dest_queue.specs.declared.SlotState.TheVariants.{Waiting, InFlight, Delivered, Failed}
use Rattle.event_log.specs.declared.entry.Ticket.{Ticket}
use Rattle.event_log.specs.declared.refusal.TakeRefusal.{TakeRefusal}
use Rattle.event_log.specs.declared.refusal.TakeRefusal.TheVariants.{Idle, NotDue}
use Rattle.event_log.specs.Answers.{front_answer, take_answer}
use Rattle.event_log.specs.Event.{take}
use Rattle.event_log.specs.Folding.{pruned}
use Rattle.event_log.specs.History.{History, next_place, queue, slot}
use Rattle.book_core.specs.declared.letter.Job.{Job}
use Rattle.book_core.specs.declared.questions.Front.{Front}
use Rattle.book_core.specs.inner.Questions.{front_at, standing}
use Rattle.ghost_log.specs.Seats.{Agrees, entries_of}
use Rattle.ghost_log.proofs.Seats.{entries-append, entry_one}
use Rattle.book_lock.specs.declared.log_entry.LogEntry.{LogEntry}
use Rattle.book_lock.specs.declared.log_entry.LogEntry.TheVariants as log
use Rattle.book_lock.specs.Log.{IsBookOf, Linearizes, Log, Looks, SeatView, Takes, after_log, own_entry, with_entry}
use Rattle.book_lock.specs.Durable.{AreArrivalsDurable, AreCommitted, ArrivedBelow, HasCommitted, HasDurable, IsAllDurable, IsCommittedBelow, IsCovered, IsDurableBelow, IsDurableMessage, changes_of}
use Rattle.book_lock.specs.declared.unread.Position.{Position}
use Rattle.book_lock.specs.declared.unread.UnreadChanges.{UnreadChanges}
use Rattle.book_lock.specs.inner.Durable.{IsJournaled, is_durable}
use Rattle.book_lock.specs.inner.Unread.{HasPruning, IsAtEnd, IsUnread}
use Rattle.book_lock.specs.inner.Counts.{is_arrival}
use Rattle.book_lock.proofs.Planning.{after_both}
use Rattle.book_lock.proofs.Backlog.{unread_more, unread_pruned}

-- ---- the parts of a log

heads : (x y : ℕ × LogEntry) (xs ys : Log) → x ∷ xs ≡ y ∷ ys → x ≡ y
heads x y xs ys e = cc

tails : (x y : ℕ × LogEntry) (xs ys : Log) → x ∷ xs ≡ y ∷ ys → xs ≡ ys
tails x y xs ys e = cc

-- an entry of a whole is in its first part, or in its second
record InFirst (first before after : Log) (x : ℕ × LogEntry) : Type 0 where
  more : Log
  is : first ≡ before ++ x ∷ more

record InSecond (first second before after : Log) (x : ℕ × LogEntry) : Type 0 where
  ahead : Log
  is : second ≡ ahead ++ x ∷ after
  lead : before ≡ first ++ ahead

where_is : (first second before : Log) (x : ℕ × LogEntry) (after : Log) → first ++ second ≡ before ++ x ∷ after → InFirst first before after x ⊎ InSecond first second before after x
where_is [] second before x after e = inr (record { ahead = before; is = e; lead = refl })
where_is (y ∷ first) second [] x after e = inl (record { more = first; is = ap (λ z. z ∷ first) (heads y x (first ++ second) after e) })
where_is (y ∷ first) second (z ∷ before) x after e =
    let same : y ≡ z = heads y z (first ++ second) (before ++ x ∷ after) e in
    elim (where_is first second before x after (tails y z (first ++ second) (before ++ x ∷ after) e)) [
      | inl p ↦ inl (record { more = p.more; is = ap (λ w. w ∷ first) same ∙ ap (λ l. z ∷ l) p.is })
      | inr p ↦ inr (record { ahead = p.ahead; is = p.is; lead = ap (λ w. w ∷ before) (sym same) ∙ ap (λ l. y ∷ l) p.lead })
    ]

-- the one entry of a log
record IsOne (ahead after : Log) (x y : ℕ × LogEntry) : Type 0 where
  none : ahead ≡ []
  same : x ≡ y

one_of : (ahead after : Log) (x y : ℕ × LogEntry) → x ∷ [] ≡ ahead ++ y ∷ after → IsOne ahead after x y
one_of [] after x y e = record { none = refl; same = heads x y [] after e }
one_of (z ∷ ahead) after x y e =
    let rest : [] ≡ ahead ++ y ∷ after = tails x z [] (ahead ++ y ∷ after) e in
    absurd (omega (arith, ap length rest, length-append ahead (y ∷ after)))

-- ---- what is durable

has_more : (entries rest : Log) (below : ℕ) → HasDurable entries below → HasDurable (entries ++ rest) below
has_more entries rest below has = record {
  before = has.before;
  seat = has.seat;
  after = has.after ++ rest;
  is = ap (λ l. l ++ rest) has.is ∙ append_assoc has.before ((has.seat, log.Durable below) ∷ has.after) rest;
}

-- at the opening, with an empty log
pub durable_at_first : (h book : History) (Committed : List LogEntry → Type 0) (entries : Log) (durable : ℕ) → book ≡ h → durable ≡ next_place book → entries ≡ [] → IsJournaled h Committed entries durable None
durable_at_first h book Committed entries durable is at none = record {
  durable = inl (let same : next_place book ≡ next_place h = ap next_place is in omega (arith, at, same));
  committed = subst (λ (l : Log). AreCommitted h Committed l) (sym none) (record { each = λ before seat below after e. absurd (omega (arith, ap length e, length-append before ((seat, log.Durable below) ∷ after))) });
  unread = tt;
}

-- what a log of which each such entry follows its commit has after one more entry
committed_more : (h : History) (Committed : List LogEntry → Type 0) (entries : Log) (x : ℕ × LogEntry) → AreCommitted h Committed entries
    → ((seat below : ℕ) → x ≡ (seat, log.Durable below) → IsCommittedBelow h Committed entries below)
    → AreCommitted h Committed (entries ++ x ∷ [])
committed_more h Committed entries x so_far last = record { each = each }
  where
    each : (before : Log) (seat below : ℕ) (after : Log) → entries ++ x ∷ [] ≡ before ++ (seat, log.Durable below) ∷ after → IsCommittedBelow h Committed before below
    each before seat below after e =
        elim (where_is entries (x ∷ []) before (seat, log.Durable below) after e) [
          | inl p ↦ so_far.each before seat below p.more p.is
          | inr p ↦
              let one = one_of p.ahead after x (seat, log.Durable below) p.is in
              let lead : before ≡ entries = p.lead ∙ (ap (λ l. entries ++ l) one.none ∙ append-nil entries) in
              subst (λ (l : Log). IsCommittedBelow h Committed l below) (sym lead) (last seat below one.same)
        ]

says_nothing : (x : ℕ × LogEntry) (seat below : ℕ) → is_durable x.1 ≡ false → x ≡ (seat, log.Durable below) → ⊥
says_nothing x seat below quiet is =
    let yes : is_durable x.1 ≡ true = ap (λ (y : ℕ × LogEntry). is_durable y.1) is in
    absurd cc

-- the index that an entry says
abbrev said : LogEntry → ℕ
said (log.Booked e) = 0
said (log.Pruned before) = 0
said (log.Durable below) = below

-- after an entry that says nothing of it
pub durable_more : (h : History) (Committed : List LogEntry → Type 0) (entries entries' : Log) (x : ℕ × LogEntry) (durable : ℕ) (kept : Option UnreadChanges) → IsJournaled h Committed entries durable kept → is_durable x.1 ≡ false → entries' ≡ entries ++ x ∷ []
    → IsJournaled h Committed entries' durable kept
durable_more h Committed entries entries' x durable kept was quiet is =
    subst (λ (l : Log). IsJournaled h Committed l durable kept) (sym is) (record {
      durable = elim was.durable [ inl early ↦ inl early | inr has ↦ inr (has_more entries (x ∷ []) durable has) ];
      committed = committed_more h Committed entries x was.committed (λ seat below same. absurd (says_nothing x seat below quiet same));
      unread = unread_more h entries x kept was.unread;
    })

-- after a pruning, with what is kept of it
pub journaled_pruned : (h : History) (Committed : List LogEntry → Type 0) (entries entries' : Log) (number before prunings durable : ℕ) (book book' : History) (at : Position) (kept new : Option UnreadChanges)
    → IsJournaled h Committed entries durable kept → IsBookOf h entries book → IsBookOf h entries' book' → at.next ≡ next_place book → at.prunings ≡ book.opening.prunings → book' ≡ pruned before book → prunings ≡ book'.opening.prunings
    → entries' ≡ entries ++ (number, log.Pruned before) ∷ [] → IfSome new (HasPruning at before prunings kept) → IsJournaled h Committed entries' durable new
journaled_pruned h Committed entries entries' number before prunings durable book book' at kept new was is then next made folded now added has =
    let base = durable_more h Committed entries entries' (number, log.Pruned before) durable kept was refl added in
    record { durable = base.durable; committed = base.committed; unread = unread_pruned h entries entries' number before prunings book book' at kept new is then was.unread next made folded now added has }

-- after an entry that says it of all that a seat has seen
pub durable_now : (h : History) (Committed : List LogEntry → Type 0) (entries entries' : Log) (number seat below was_below prunings : ℕ) (seen : Log) (kept : Option UnreadChanges) → IsJournaled h Committed entries was_below kept
    → Agrees number seen entries → IsAtEnd h seen below prunings → Committed (changes_of seen) → entries' ≡ entries ++ (seat, log.Durable below) ∷ []
    → IsJournaled h Committed entries' below kept
unfolding said
durable_now h Committed entries entries' number seat below was_below prunings seen kept was agreed at_end committed is = record {
  durable = inr (record { before = entries; seat = seat; after = []; is = is });
  committed = subst (λ (l : Log). AreCommitted h Committed l) (sym is) (committed_more h Committed entries (seat, log.Durable below) was.committed now);
  unread = subst (λ (l : Log). IsUnread h l kept) (sym is) (unread_more h entries (seat, log.Durable below) kept was.unread);
}
  where
    now : (s b : ℕ) → ◌≡◌ {A = ℕ × LogEntry} (seat, log.Durable below) (s, log.Durable b) → IsCommittedBelow h Committed entries b
    now s b same = record {
      durable = seen;
      rest = agreed.begins.0;
      is = sym agreed.begins.1;
      committed = committed;
      next = sym (ap (λ (y : ℕ × LogEntry). said y.1) same) ∙ at_end.next;
    }

-- the history of a closed book
pub has_committed : (h book : History) (Committed : List LogEntry → Type 0) (n : ℕ) (seen : List SeatView) (entries : Log) → (one : Linearizes h n seen book) → one.entries ≡ entries → AreCommitted h Committed entries → HasCommitted h Committed n seen book
has_committed h book Committed n seen entries one is each = record { one_history = one; committed = subst (λ (l : Log). AreCommitted h Committed l) (sym is) each }

-- ---- indices grow with a log

grows_one : (h : History) (x : LogEntry) → next_place h ≤ next_place (with_entry h x)
grows_one h (log.Booked e) = omega (arith, length-append h.entries (e ∷ []))
grows_one h (log.Pruned before) = omega arith
grows_one h (log.Durable below) = omega arith

pub grows : (h : History) (xs : Log) → next_place h ≤ next_place (after_log h xs)
grows h [] = omega arith
grows h (x ∷ xs) = omega (arith, grows_one h x.1, grows (with_entry h x.1) xs)

-- an arrival has an index of its own
rises : (h : History) (x : LogEntry) → is_arrival x ≡ true → next_place h < next_place (with_entry h x)
rises h (log.Booked e) is = omega (arith, length-append h.entries (e ∷ []))
rises h (log.Pruned before) is = absurd cc
rises h (log.Durable below) is = absurd cc

-- an arrival that a log has is below the next index after it
inside : (h : History) (before : Log) (n : ℕ) (x : LogEntry) (after : Log) → is_arrival x ≡ true
    → next_place (after_log h before) < next_place (after_log h (before ++ (n, x) ∷ after))
inside h before n x after is =
    let there : History = after_log h before in
    let whole : next_place (after_log h (before ++ (n, x) ∷ after)) ≡ next_place (after_log (with_entry there x) after) = ap next_place (after_both h before ((n, x) ∷ after)) in
    omega (arith, whole, rises there x is, grows (with_entry there x) after)

-- what a reader has copied was booked
pub durable_may : (h : History) (number : ℕ) (seen entries : Log) (book : History) (place prunings : ℕ) → IsBookOf h entries book → Agrees number seen entries → IsAtEnd h seen place prunings
    → place ≤ next_place book
durable_may h number seen entries book place prunings was agreed at_end =
    let there : History = after_log h seen in
    let rest : Log = agreed.begins.0 in
    let whole : next_place book ≡ next_place (after_log there rest) = ap next_place (was.is ∙ (ap (after_log h) (sym agreed.begins.1) ∙ after_both h seen rest)) in
    omega (arith, at_end.next, whole, grows there rest)

-- ---- what a seat waits for

-- a part with an entry of a seat has one
has_own : (number : ℕ) (second ahead : Log) (x : LogEntry) (after : Log) → second ≡ ahead ++ (number, x) ∷ after → entries_of number second ≡ [] → ⊥
has_own number second ahead x after is none =
    let here : entries_of number second ≡ entries_of number ahead ++ (entries_of number ((number, x) ∷ []) ++ entries_of number after) =
    ap (entries_of number) is ∙ (entries-append number ahead ((number, x) ∷ after) ∙ ap (λ l. entries_of number ahead ++ l) (entries-append number ((number, x) ∷ []) after)) in
    let some : length (entries_of number ((number, x) ∷ [])) ≡ 1 = ap length (entry_one number x) in
    absurd (omega (arith, ap length here, ap length none, some, length-append (entries_of number ahead) (entries_of number ((number, x) ∷ []) ++ entries_of number after), length-append (entries_of number ((number, x) ∷ [])) (entries_of number after)))

-- a seat that is shown a log in which all is durable that it had seen
pub arrivals_durable : (h : History) (old new : SeatView) (entries : Log) (until durable : ℕ) → Looks h old new → new.seen ≡ entries
    → until ≡ next_place (after_log h old.seen) → until ≤ durable → IsDurableBelow h entries durable → AreArrivalsDurable h new
arrivals_durable h old new entries until durable looks all at enough is = record { each = λ before conn channel raw told after here. each before (log.Booked (entry.Arrival conn channel raw told)) after here refl }
  where
    below : (before : Log) (x : LogEntry) (after : Log) → new.seen ≡ before ++ (new.number, x) ∷ after → is_arrival x ≡ true → next_place (after_log h before) < until
    below before x after here arrival =
        elim (where_is old.seen looks.others before (new.number, x) after (sym looks.seen ∙ here)) [
          | inl p ↦
              let less : next_place (after_log h before) < next_place (after_log h old.seen) =
              subst (λ (l : Log). next_place (after_log h before) < next_place (after_log h l)) (sym p.is) (inside h before new.number x p.more arrival) in
              omega (arith, at, less)
          | inr p ↦
              let own : looks.others ≡ p.ahead ++ (old.number, x) ∷ after = p.is ∙ ap (λ (n : ℕ). p.ahead ++ (n, x) ∷ after) looks.number in
              absurd (has_own old.number looks.others p.ahead x after own looks.none_own)
        ]

    each : (before : Log) (x : LogEntry) (after : Log) → new.seen ≡ before ++ (new.number, x) ∷ after → is_arrival x ≡ true → IsCovered new.seen (next_place (after_log h before))
    each before x after here arrival =
        let less = below before x after here arrival in
        elim is [
          | inl early ↦ absurd (omega (arith, less, enough, early, grows h before))
          | inr has ↦ record { below = durable; has = subst (λ (l : Log). HasDurable l durable) (sym all) has; covers = omega (arith, less, enough) }
        ]

-- two looks are one
pub looked_twice : (h : History) (a b c : SeatView) → Looks h a b → Looks h b c → Looks h a c
looked_twice h a b c p q =
    let none : entries_of a.number q.others ≡ [] = subst (λ (n : ℕ). entries_of n q.others ≡ []) p.number q.none_own in
    record {
      number = q.number ∙ p.number;
      others = p.others ++ q.others;
      none_own = entries-append a.number p.others q.others ∙ (λ i. p.none_own i ++ none i);
      seen = q.seen ∙ (ap (λ l. l ++ q.others) p.seen ∙ append_assoc a.seen p.others q.others);
      legal = q.legal;
    }

-- all that a seat had seen is durable, where all is that it saw later
pub all_before : (h : History) (a b : SeatView) (new : Log) → Looks h a b → IsAllDurable h b.seen new → IsAllDurable h a.seen new
all_before h a b new looks is =
    let more : next_place (after_log h b.seen) ≡ next_place (after_log (after_log h a.seen) looks.others) =
    ap (λ (l : Log). next_place (after_log h l)) looks.seen ∙ ap next_place (after_both h a.seen looks.others) in
    record { below = is.below; behind = omega (arith, more, grows (after_log h a.seen) looks.others, is.behind); durable = is.durable }

-- ---- a take of what is durable

durable_all : (h : History) (xs ys : Log) (below : ℕ) → IsDurableBelow h xs below → IsDurableBelow h (xs ++ ys) below
durable_all h xs ys below (inl early) = inl early
durable_all h xs ys below (inr has) = inr (has_more xs ys below has)

-- the front whose ticket is answered
record IsFront (h : History) (d : ℕ) (ticket : Ticket) : Type 0 where
  front : Front
  at : front_at h d ≡ Some front
  number : ticket.number ≡ front.number

ok_is : (x y : Ticket) → ◌≡◌ {A = Result Ticket TakeRefusal} (Ok x) (Ok y) → x ≡ y
ok_is x y e = cc

front_of : (h : History) (d now : ℕ) (ticket : Ticket) → take_answer h d now ≡ Ok ticket → IsFront h d ticket
front_of h d now ticket answered = let it = by (slice_get (queue h d) 0) answered in record { front = it.0; at = it.1; number = it.2 }
  where
    due_now : (n attempts due : ℕ) (b : Bool) → cond b (Err (NotDue due)) (Ok (record { number = n; destination = d; attempt = attempts + 1 })) ≡ Ok ticket → ticket.number ≡ n
    due_now n attempts due true e = absurd cc
    due_now n attempts due false e = ap (λ (t : Ticket). t.number) (sym (ok_is (record { number = n; destination = d; attempt = attempts + 1 }) ticket e))

    one : (n : ℕ) (o : Option SlotState) → front_answer d now n o ≡ Ok ticket → (f : Front) × (option_map (standing n) o ≡ Some f) × (ticket.number ≡ f.number)
    one n None e = absurd cc
    one n (Some (Waiting attempts due)) e = (standing n (Waiting attempts due), refl, due_now n attempts due (nat_lt now due) e)
    one n (Some (InFlight attempt)) e = absurd cc
    one n (Some Delivered) e = absurd cc
    one n (Some (Failed cause)) e = absurd cc

    by : (q : Option ℕ) → option_map_or (λ n. front_answer d now n (slot h n d)) q (Err Idle) ≡ Ok ticket
        → (f : Front) × (option_and_then (λ n. option_map (standing n) (slot h n d)) q ≡ Some f) × (ticket.number ≡ f.number)
    by None e = absurd cc
    by (Some n) e = one n (slot h n d) e

pub durable_taken : (h book : History) (d now : ℕ) (between new : SeatView) (job : Job) → ((f : Front) → front_at book d ≡ Some f → IsDurableMessage h book between.seen f.number)
    → take_answer book d now ≡ Ok job.ticket → Takes h d now between new (Ok job) → IsDurableMessage h book new.seen job.ticket.number
durable_taken h book d now between new job front_known answered takes =
    let is = front_of book d now job.ticket answered in
    let known = front_known is.front is.at in
    let own : Log = own_entry between.number (take d now) (Ok job.ticket) in
    let longer : IsDurableBelow h new.seen known.below =
    subst (λ (l : Log). IsDurableBelow h l known.below) (sym takes.call.seen) (durable_all h (between.seen ++ takes.call.others) own known.below (durable_all h between.seen takes.call.others known.below known.durable)) in
    record { below = known.below; arrived = subst (λ (n : ℕ). ArrivedBelow book n known.below) (sym is.number) known.arrived; durable = longer }
