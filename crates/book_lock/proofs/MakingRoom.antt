-- What an arrival comes to that is booked after what was done about the book.
use Rattle.std.proofs.Common.{◌≡◌, ◌≢◌, ◌⊎◌, ◌≤◌, ◌<◌, ◌+◌, true, false, Bool, cond, ℕ, None, Some, Option, Result, Ok, Err, IfErr, IfOk, IsErrOf, OnErr, OnOk, refl, ap, sym, ◌∙◌, subst, inl, inr, arith}
use Rattle.std.specs.Option.{option_map_or}
use Rattle.judge_core.specs.declared.judged.Judged.{Judged}
use Rattle.event_log.specs.Answers.{arrival_answer}
use Rattle.event_log.specs.Event.{Does, answer, arrive}
use Rattle.event_log.specs.Event as event
use Rattle.event_log.specs.Folding.{prune_answer, pruned}
use Rattle.event_log.specs.History.{History}
use Rattle.event_log.specs.Room.{is_full}
use Rattle.event_log.specs.inner.Legal.{IsSound}
use Rattle.event_log.specs.declared.entry.Told.{Told}
use Rattle.event_log.specs.declared.refusal.PruneRefusal.{PruneRefusal}
use Rattle.event_log.specs.declared.refusal.PruneRefusal.TheVariants.{NoMemory, TooMany}
use Rattle.book_core.specs.Receiving.{IsReceipt, arrival_reply}
use Rattle.book_core.specs.declared.receipt.NotBooked.{NotBooked}
use Rattle.book_core.specs.declared.receipt.NotBooked.TheVariants.{Full}
use Rattle.book_core.specs.declared.receipt.Receipt.{Receipt}
use Rattle.book_core.specs.inner.Questions.{is_tight}
use Rattle.book_lock.specs.Crowding.{crowded_route}
use Rattle.book_lock.specs.Log.{Arrives, IsTidiedInLog, IsLogged, book_at}
use Rattle.book_lock.specs.Rises.{SharedBook}
use Rattle.book_lock.specs.Shares.{DeskView}
use Rattle.book_lock.specs.declared.crowding.Crowded.{Crowded}
use Rattle.book_lock.specs.declared.tidying.Tidied.{Tidied}
use Rattle.book_lock.specs.declared.tidying.Tidying.{Tidying}
use Rattle.book_lock.specs.declared.tidying.Tidying.TheVariants.{NotTight, Pruned, Refused}
use Rattle.book_lock.specs.inner.Arriving.{ArrivesAtBook, ArrivesAtDesk, ArrivesHere}
use Rattle.book_lock.specs.inner.Rises.{with_book}
use Rattle.book_lock.specs.inner.Tidies.{ArrivesAtTidied, ArrivesTidied, CallsForPruning, IsHeldBack, IsHeldBackAt, IsOutOfRoom, IsPruning, IsTidying, IsTidyingFor, is_worth_pruning, left_by, unbooked_repeat}
use Rattle.book_lock.proofs.Freeing.{free_after}
use Rattle.book_lock.proofs.Retrying.{full_then}

-- what was received is what the receipt says
conn_of : (place conn channel : ℕ) (raw : _) (r : Result Receipt NotBooked) → IfOk r (IsReceipt place conn channel raw) → IfOk r (λ receipt. receipt.conn ≡ conn)
conn_of place conn channel raw (Ok receipt) is = is.conn
conn_of place conn channel raw (Err refusal) is = tt

channel_of : (place conn channel : ℕ) (raw : _) (r : Result Receipt NotBooked) → IfOk r (IsReceipt place conn channel raw) → IfOk r (λ receipt. receipt.channel ≡ channel)
channel_of place conn channel raw (Ok receipt) is = is.channel
channel_of place conn channel raw (Err refusal) is = tt

raw_of : (place conn channel : ℕ) (raw : _) (r : Result Receipt NotBooked) → IfOk r (IsReceipt place conn channel raw) → IfOk r (λ receipt. receipt.raw ≡ raw)
raw_of place conn channel raw (Ok receipt) is = is.raw
raw_of place conn channel raw (Err refusal) is = tt

pub arrived : (h : History) (keep conn : ℕ) (judged : Judged) (old new : SharedBook) (desk desk' : DeskView) (receipt : Result Receipt NotBooked) (tidying : Tidying) (repeats : Option ℕ)
    → IsTidyingFor keep judged old tidying → IsTidiedInLog h tidying → crowded_route (left_by old tidying).book judged.channel ≡ None
    → ArrivesAtBook conn judged (left_by old tidying) new receipt → (IsErrOf receipt Full → IsOutOfRoom (left_by old tidying).book tidying)
    → ArrivesHere h conn judged (left_by old tidying).book desk.seat desk'.seat receipt
    → OnOk receipt (desk'.made ≡ desk.made + 1) → OnErr receipt (desk'.made ≡ desk.made) → repeats ≡ unbooked_repeat new.book judged receipt
    → ArrivesTidied h keep conn judged old new desk desk' (record { receipt = receipt; repeats = repeats; tidying = tidying })
arrived h keep conn judged old new desk desk' receipt tidying repeats tidied in_log free booked full here counted refused found = record {
  tidying = tidied;
  in_log = in_log;
  free = free;
  booked = booked;
  full = full;
  repeats = found;
  at_desk = record {
    conn = conn_of _ conn judged.channel judged.raw receipt booked.receipt;
    channel = channel_of _ conn judged.channel judged.raw receipt booked.receipt;
    raw = raw_of _ conn judged.channel judged.raw receipt booked.receipt;
    call = here.arrives;
    counted = counted;
    refused = refused;
  };
  moment = here.moment;
}

-- an arrival for which there is no room
was_full : (h : History) (conn channel : ℕ) (raw : _) → answer h (arrive conn channel raw) ≡ Err event.full → is_full h channel raw ≡ true
was_full h conn channel raw is = by (is_full h channel raw) (arrival_answer h channel raw) is
  where
    by : (b : Bool) (o : Option Told) → cond b (Err event.full) (option_map_or (λ t. Ok t) o (Err event.no_message)) ≡ Err event.full → b ≡ true
    by true o e = refl
    by false None e = absurd cc
    by false (Some t) e = absurd cc

pub finds_no_room : (h new : History) (conn channel : ℕ) (raw : _) → Does (arrive conn channel raw) h new (arrival_reply (Err Full)) → is_full h channel raw ≡ true
finds_no_room h new conn channel raw does = elim does.refused [
  | inl is ↦ was_full h conn channel raw is
  | inr other ↦ elim other [ inl x ↦ absurd cc | inr x ↦ absurd cc ]
]

-- what is done about a tight book, and about one without room
pub for_tight : (keep : ℕ) (judged : Judged) (h : SharedBook) (t : Tidying) → IsTidying keep h t → IsTidyingFor keep judged h t
for_tight keep judged h NotTight is = is
for_tight keep judged h (Pruned before) is = (inl is.0, is.1)
for_tight keep judged h (Refused refusal) is = (inl is.0, is.1)

pub for_room : (keep : ℕ) (judged : Judged) (h : SharedBook) (t : Tidying) → CallsForPruning judged h.book → IsPruning keep h t → IsTidyingFor keep judged h t
for_room keep judged h NotTight calls is = absurd is
for_room keep judged h (Pruned before) calls is = (calls, is.1)
for_room keep judged h (Refused refusal) calls is = (calls, is)

pub tight_pruning : (keep : ℕ) (h : SharedBook) (t : Tidying) → is_tight h.book ≡ true → IsPruning keep h t → IsTidying keep h t
tight_pruning keep h NotTight tight is = absurd is
tight_pruning keep h (Pruned before) tight is = (tight, is.1)
tight_pruning keep h (Refused refusal) tight is = (tight, is)

-- where there is no room after it, none can be made
refused_room : (h : SharedBook) (refusal : PruneRefusal) → ((refusal ≡ TooMany) × (1000 ≤ h.book.opening.prunings)) ⊎ ((refusal ≡ NoMemory) × (h.book.opening.prunings < 1000)) → IsOutOfRoom h.book (Refused refusal)
refused_room h refusal why = elim why [ inl w ↦ inr (inl w.1) | inr w ↦ inr (inr (ap Refused w.0)) ]

pub out_of_room : (keep : ℕ) (h : SharedBook) (t : Tidying) → IsPruning keep h t → IsOutOfRoom (left_by h t).book t
out_of_room keep h NotTight is = absurd is
out_of_room keep h (Pruned before) is = inl refl
out_of_room keep h (Refused refusal) is = refused_room h refusal is

pub out_of_room_tidied : (keep : ℕ) (h : SharedBook) (t : Tidying) → t ≢ NotTight → IsTidying keep h t → IsOutOfRoom (left_by h t).book t
out_of_room_tidied keep h NotTight some is = absurd (some refl)
out_of_room_tidied keep h (Pruned before) some is = inl refl
out_of_room_tidied keep h (Refused refusal) some is = refused_room h refusal is.1

-- what was free stays free
pub free_left : (keep channel : ℕ) (h : SharedBook) (t : Tidying) → IsSound h.book → is_tight h.book ≡ false → IsPruning keep h t → crowded_route h.book channel ≡ None
    → crowded_route (left_by h t).book channel ≡ None
free_left keep channel h NotTight sound loose is free = absurd is
free_left keep channel h (Pruned before) sound loose is free = free_after h.book sound before is.0 loose channel free
free_left keep channel h (Refused refusal) sound loose is free = free

-- what a message repeats is the same in a book that an arrival without room left as it was
repeat_as : (h k : History) (judged : Judged) (r : Result Receipt NotBooked) → OnErr r (k ≡ h) → unbooked_repeat k judged r ≡ unbooked_repeat h judged r
repeat_as h k judged (Ok receipt) same = refl
repeat_as h k judged (Err refusal) same = ap (λ b. unbooked_repeat b judged (Err refusal)) same

left_as_it_was : (old new : History) (conn channel : ℕ) (raw : _) (r : Result Receipt NotBooked) → Does (arrive conn channel raw) old new (arrival_reply r) → OnErr r (new ≡ old)
left_as_it_was old new conn channel raw (Ok receipt) does = tt
left_as_it_was old new conn channel raw (Err refusal) does = does.unchanged

-- the same, as those see it who share the book
pub seen_tidied : (h : History) (keep conn : ℕ) (judged : Judged) (old new : SharedBook) (desk desk' : DeskView) (tidied : Tidied) → ArrivesTidied h keep conn judged old new desk desk' tidied → ArrivesAtTidied h conn judged desk desk' tidied
seen_tidied h keep conn judged old new desk desk' tidied is = record {
  in_log = is.in_log;
  at_desk = is.at_desk;
  free = ap (λ b. crowded_route b judged.channel) is.moment ∙ is.free;
  full = λ e. subst (λ (b : History). IsOutOfRoom b tidied.tidying) (sym is.moment) (is.full e);
  repeats = at_moment;
  in_seen = at_moment ∙ sym (repeat_as _ _ judged tidied.receipt (left_as_it_was _ _ conn judged.channel judged.raw tidied.receipt is.at_desk.call.call.does));
}
  where
    at_moment : tidied.repeats ≡ unbooked_repeat (book_at h desk.seat is.at_desk.call.call.others) judged tidied.receipt
    at_moment =
        is.repeats
        ∙ (repeat_as _ _ judged tidied.receipt (left_as_it_was _ _ conn judged.channel judged.raw tidied.receipt is.booked.does)
        ∙ ap (λ b. unbooked_repeat b judged tidied.receipt) (sym is.moment))

pub seen_results : (h : History) (keep conn : ℕ) (judged : Judged) (old new : SharedBook) (desk desk' : DeskView) (r : Result Tidied Crowded)
    → IfOk r (ArrivesTidied h keep conn judged old new desk desk') → IfOk r (ArrivesAtTidied h conn judged desk desk')
seen_results h keep conn judged old new desk desk' (Ok tidied) is = seen_tidied h keep conn judged old new desk desk' tidied is
seen_results h keep conn judged old new desk desk' (Err crowded) is = tt

pub seen_back : (h : History) (keep : ℕ) (judged : Judged) (old new : SharedBook) (r : Result Tidied Crowded)
    → IfErr r (IsHeldBack h keep judged old new) → IsLogged h new.book → IfErr r (IsHeldBackAt h judged.channel)
seen_back h keep judged old new (Ok tidied) is logged = tt
seen_back h keep judged old new (Err crowded) is logged =
    record { in_log = is.in_log; route = record { book = new.book; logged = logged; holds = is.route } }

-- ---- one arrival, and another one behind it

not_true : (b : Bool) → (b ≡ true → ⊥) → b ≡ false
not_true true none = absurd (none refl)
not_true false none = refl

unchanged_full : (old new : History) (conn channel : ℕ) (raw : _) (r : Result Receipt NotBooked) → IsErrOf r Full → Does (arrive conn channel raw) old new (arrival_reply r) → new ≡ old
unchanged_full old new conn channel raw (Ok receipt) e does = absurd cc
unchanged_full old new conn channel raw (Err refusal) e does = does.unchanged

-- a book that is not tight, where no pruning is to be made
pub first_only : (h : History) (keep conn : ℕ) (judged : Judged) (old new : SharedBook) (desk desk' : DeskView) (r : Result Receipt NotBooked) (repeats : Option ℕ)
    → is_tight old.book ≡ false → crowded_route old.book judged.channel ≡ None → ArrivesAtBook conn judged old new r
    → ArrivesHere h conn judged old.book desk.seat desk'.seat r → OnOk r (desk'.made ≡ desk.made + 1) → OnErr r (desk'.made ≡ desk.made)
    → (IsErrOf r Full × (is_worth_pruning new.book ≡ true) → ⊥) → repeats ≡ unbooked_repeat new.book judged r
    → ArrivesTidied h keep conn judged old new desk desk' (record { receipt = r; repeats = repeats; tidying = NotTight })
first_only h keep conn judged old new desk desk' r repeats loose free booked here counted refused none found =
    let full : IsErrOf r Full → IsOutOfRoom old.book NotTight = λ e.
    let same : new.book ≡ old.book = unchanged_full old.book new.book conn judged.channel judged.raw r e booked.does in
    inl (not_true (is_worth_pruning old.book) (λ worth. none (e, ap is_worth_pruning same ∙ worth))) in
    arrived h keep conn judged old new desk desk' r NotTight repeats loose tt free booked full here counted refused found

-- one behind a pruning, since there was no room for the first
pub again : (h : History) (keep conn : ℕ) (judged : Judged) (old mid left new : SharedBook) (desk desk1 desk2 : DeskView) (first r : Result Receipt NotBooked) (t : Tidying) (repeats : Option ℕ)
    → IsSound old.book → is_tight old.book ≡ false → crowded_route old.book judged.channel ≡ None
    → IsErrOf first Full → Does (arrive conn judged.channel judged.raw) old.book mid.book (arrival_reply first) → mid ≡ with_book old mid.book
    → Arrives h conn judged desk.seat desk1.seat first → OnErr first (desk1.made ≡ desk.made) → is_worth_pruning mid.book ≡ true
    → IsPruning keep mid t → left ≡ left_by mid t → IsTidiedInLog h t
    → ArrivesAtBook conn judged left new r → ArrivesHere h conn judged left.book desk1.seat desk2.seat r → OnOk r (desk2.made ≡ desk1.made + 1) → OnErr r (desk2.made ≡ desk1.made)
    → repeats ≡ unbooked_repeat new.book judged r
    → ArrivesTidied h keep conn judged old new desk desk2 (record { receipt = r; repeats = repeats; tidying = t })
again h keep conn judged old mid left new desk desk1 desk2 first r t repeats sound loose free e does is call missed worth pruning leaves in_log booked here counted refused found =
    let book : mid.book ≡ old.book = unchanged_full old.book mid.book conn judged.channel judged.raw first e does in
    let same : mid ≡ old = is ∙ ap (λ b. with_book old b) book in
    let pruned : IsPruning keep old t = subst (λ (m : SharedBook). IsPruning keep m t) same pruning in
    let left_is : left ≡ left_by old t = leaves ∙ ap (λ m. left_by m t) same in
    let none : is_full old.book judged.channel judged.raw ≡ true =
    finds_no_room old.book mid.book conn judged.channel judged.raw (subst (λ (w : Result Receipt NotBooked). Does (arrive conn judged.channel judged.raw) old.book mid.book (arrival_reply w)) e does) in
    let made : desk1.made ≡ desk.made = subst (λ (w : Result Receipt NotBooked). OnErr w (desk1.made ≡ desk.made)) e missed in
    arrived h keep conn judged old new desk desk2 r t repeats
    (for_room keep judged old t (inr (none, ap is_worth_pruning (sym book) ∙ worth)) pruned) in_log
    (free_left keep judged.channel old t sound loose pruned free)
    (subst (λ (l : SharedBook). ArrivesAtBook conn judged l new r) left_is booked)
    (λ _. out_of_room keep old t pruned)
    (full_then h conn judged (left_by old t).book desk.seat desk1.seat desk2.seat r
    (subst (λ (w : Result Receipt NotBooked). Arrives h conn judged desk.seat desk1.seat w) e call)
    (subst (λ (l : SharedBook). ArrivesHere h conn judged l.book desk1.seat desk2.seat r) left_is here))
    (subst (λ (m : ℕ). OnOk r (desk2.made ≡ m + 1)) made counted)
    (subst (λ (m : ℕ). OnErr r (desk2.made ≡ m)) made refused)
    found

-- a book that was tight
pub after_tidying : (h : History) (keep conn : ℕ) (judged : Judged) (old left new : SharedBook) (desk desk' : DeskView) (r : Result Receipt NotBooked) (t : Tidying) (repeats : Option ℕ)
    → IsTidying keep old t → IsTidiedInLog h t → left ≡ left_by old t → t ≢ NotTight → crowded_route left.book judged.channel ≡ None
    → ArrivesAtBook conn judged left new r → ArrivesHere h conn judged left.book desk.seat desk'.seat r → OnOk r (desk'.made ≡ desk.made + 1) → OnErr r (desk'.made ≡ desk.made)
    → repeats ≡ unbooked_repeat new.book judged r
    → ArrivesTidied h keep conn judged old new desk desk' (record { receipt = r; repeats = repeats; tidying = t })
after_tidying h keep conn judged old left new desk desk' r t repeats tidied in_log leaves some free booked here counted refused found =
    arrived h keep conn judged old new desk desk' r t repeats (for_tight keep judged old t tidied) in_log
    (ap (λ (l : SharedBook). crowded_route l.book judged.channel) (sym leaves) ∙ free)
    (subst (λ (l : SharedBook). ArrivesAtBook conn judged l new r) leaves booked)
    (λ _. out_of_room_tidied keep old t some tidied)
    (subst (λ (l : SharedBook). ArrivesHere h conn judged l.book desk.seat desk'.seat r) leaves here)
    counted refused found

-- one that was not
pub nothing_done : (h : History) (keep conn : ℕ) (judged : Judged) (old left new : SharedBook) (desk desk' : DeskView) (tidied : Tidied) (t : Tidying)
    → left ≡ left_by old t → t ≡ NotTight → ArrivesTidied h keep conn judged left new desk desk' tidied → ArrivesTidied h keep conn judged old new desk desk' tidied
nothing_done h keep conn judged old left new desk desk' tidied t leaves is arrives =
    subst (λ (l : SharedBook). ArrivesTidied h keep conn judged l new desk desk' tidied) (leaves ∙ ap (left_by old) is) arrives
