-- What a piece of a stream does.
use Rattle.std.proofs.Common.{◌≡◌, ◌≤◌, ℕ, ◌+◌, Bool, true, false, List, [], ◌++◌, drop, get_or, length, map, set, slice_get, Option, None, Some, inl, inr, refl, sym, ap, ◌∙◌, subst, append_assoc, length-append, arith}
use Rattle.std.specs.Option.{option_map_or}
use Rattle.std.proofs.lemmas.List.{drop-append-le, map-append}
use Rattle.std.proofs.lemmas.List.Elements.{filter_map-append}
use Rattle.event_log.specs.History.{History}
use Rattle.event_log.specs.Legal.{IsLegal}
use Rattle.conn_core.specs.Messages.{booked, booked_with, messages}
use Rattle.conn_core.specs.Replies.{Answer, Due, dues, numbered, replies}
use Rattle.conn_core.proofs.Numbering.{numbered-append}
use Rattle.engine_model.proofs.Duly.{dues-append}
use Rattle.engine_model.specs.Run.{Connection, Run, arrivals_on, booked_since, folded_at}
use Rattle.engine_model.specs.Steps.{AreAnswered, EndsWithin, Hears, HearsAt, HearsIf, ReadsOn, RepliesFront, after_answers}
use Rattle.engine_model.specs.Promise.{AreFirst, AreRead, AreWritten, RunInvariant}
use Rattle.engine_model.proofs.Booking.{arrivals-other, arrivals-own, legal-answers}
use Rattle.engine_model.proofs.Places.{each-set, get-set_other, get-set_same, same_or_apart}

abbrev raws : List Answer → List (List ℕ)
raws answers = map (λ (a : Answer). a.raw) answers

-- what a piece does to its connection: these answers more, which are booked, and what the promise says of it after
record Served (conn : ℕ) (h h' : History) (c to : Connection) : Type 0 where
  new : List Answer
  now : ℕ
  answered : AreAnswered conn c.channel now h new
  history : h' ≡ after_answers conn c.channel h new
  channel : to.channel ≡ c.channel
  answers : to.answers ≡ c.answers ++ new
  read : AreRead to.ended to.stream to.answers
  written : AreWritten to.ended conn to.answers to.output

module _ (conn : ℕ) (bytes : List ℕ) (now : ℕ) (h h' : History) (c to : Connection) (read : messages c.stream ≡ raws c.answers) (written : c.output ≡ replies conn c.answers) where
  -- the messages answered so far and the new ones
  raws-more : (new : List Answer) → to.answers ≡ c.answers ++ new → messages c.stream ++ raws new ≡ raws to.answers
  raws-more new grown =
      ap (λ l. l ++ raws new) read ∙ sym (map-append (λ (a : Answer). a.raw) c.answers new) ∙ ap raws (sym grown)

  -- the replies so far and those that follow
  replies-more : (ds : List Due) → c.output ++ numbered conn (1 + length (dues c.answers)) ds ≡ numbered conn 1 (dues c.answers ++ ds)
  replies-more ds = ap (λ l. l ++ numbered conn (1 + length (dues c.answers)) ds) written ∙ sym (numbered-append conn 1 (dues c.answers) ds)

  reads_on : ReadsOn conn bytes now h h' c to → Served conn h h' c to
  reads_on s =
      let all : messages to.stream ≡ raws to.answers = s.each_once ∙ raws-more s.new s.answers in
      let sent : to.output ≡ replies conn to.answers =
      s.output ∙ replies-more (dues s.new) ∙ ap (numbered conn 1) (sym (dues-append c.answers s.new)) ∙ ap (replies conn) (sym s.answers) in
      record {
        new = s.new;
        now = now;
        answered = s.answered;
        history = s.booked;
        channel = s.channel;
        answers = s.answers;
        read = subst (λ b. AreRead b to.stream to.answers) (sym s.stays) all;
        written = subst (λ b. AreWritten b conn to.answers to.output) (sym s.stays) sent;
      }

  ends_within : EndsWithin conn bytes now h h' c to → Served conn h h' c to
  ends_within s =
      let x = s.replies in
      let first : AreFirst (raws to.answers) (messages to.stream) = record {
        later = s.unanswered;
        whole =
            s.in_order
            ∙ sym (append_assoc (messages c.stream) (raws s.new) s.unanswered)
            ∙ ap (λ l. l ++ s.unanswered) (raws-more s.new s.answers);
      } in
      let front : RepliesFront conn 1 to.answers to.output = record {
        replied = c.answers ++ x.replied;
        last = x.last;
        all = s.answers ∙ ap (λ l. c.answers ++ l) x.all ∙ sym (append_assoc c.answers x.replied x.last);
        one = x.one;
        sent = x.sent;
        unsent = x.unsent;
        due = x.due;
        text_is =
            s.output
            ∙ ap (λ l. c.output ++ l) x.text_is
            ∙ replies-more (dues x.replied ++ x.sent)
            ∙ ap (numbered conn 1) (sym (append_assoc (dues c.answers) (dues x.replied) x.sent) ∙ ap (λ l. l ++ x.sent) (sym (dues-append c.answers x.replied)));
      } in
      record {
        new = s.new;
        now = now;
        answered = s.answered;
        history = s.booked;
        channel = s.channel;
        answers = s.answers;
        read = subst (λ b. AreRead b to.stream to.answers) (sym s.stops) first;
        written = subst (λ b. AreWritten b conn to.answers to.output) (sym s.stops) front;
      }

since-more : (n conn : ℕ) (c to : Connection) (new : List Answer) → n ≤ length c.answers → to.channel ≡ c.channel → to.answers ≡ c.answers ++ new
    → booked_since n conn c ++ booked conn c.channel new ≡ booked_since n conn to
since-more n conn c to new before channel answers =
    sym (filter_map-append (λ (a : Answer). booked_with conn c.channel a.raw a.outcome) (drop n c.answers) new)
    ∙ ap (booked conn c.channel) (sym (drop-append-le n c.answers new before) ∙ ap (drop n) (sym answers))
    ∙ ap (λ k. booked conn k (drop n to.answers)) (sym channel)

before-more : (n : ℕ) (xs ys new : List Answer) → n ≤ length xs → ys ≡ xs ++ new → n ≤ length ys
before-more n xs ys new before grown = omega (arith, before, ap (λ (l : List Answer). length l) grown, length-append xs new)

module _ (conn : ℕ) (r r' : Run) (c to : Connection) (at : slice_get r.connections conn ≡ Some c) (only : r'.connections ≡ set r.connections conn to) (stays : r'.folded ≡ r.folded) where
  served : Served conn r.history r'.history c to → RunInvariant r → RunInvariant r'
  served s word =
      let there : slice_get r'.connections conn ≡ Some to = ap (λ l. slice_get l conn) only ∙ get-set_same r.connections conn c to at in
      record {
        legal = subst IsLegal (sym s.history) (legal-answers conn c.channel s.now r.history s.new word.legal s.answered);
        read = λ k d is. each-set (λ k (d : Connection). AreRead d.ended d.stream d.answers) r.connections conn c to at s.read word.read k d (ap (λ l. slice_get l k) (sym only) ∙ is);
        written = λ k d is. each-set (λ k (d : Connection). AreWritten d.ended k d.answers d.output) r.connections conn c to at s.written word.written k d (ap (λ l. slice_get l k) (sym only) ∙ is);
        booked = λ k. elim (same_or_apart conn k) [
          | inl same ↦
              subst (λ n. arrivals_on n r'.history ≡ option_map_or (booked_since (folded_at r' n) n) (slice_get r'.connections n) []) same
              (ap (arrivals_on conn) s.history
              ∙ arrivals-own conn c.channel r.history s.new
              ∙ ap (λ l. l ++ booked conn c.channel s.new) (word.booked conn ∙ ap (λ o. option_map_or (booked_since (folded_at r conn) conn) o []) at)
              ∙ since-more (folded_at r conn) conn c to s.new (word.before conn c at) s.channel s.answers
              ∙ ap (λ o. option_map_or (booked_since (folded_at r conn) conn) o []) (sym there)
              ∙ ap (λ f. option_map_or (booked_since (get_or f conn 0) conn) (slice_get r'.connections conn) []) (sym stays))
          | inr apart ↦
              ap (arrivals_on k) s.history
              ∙ arrivals-other k conn c.channel r.history s.new apart
              ∙ word.booked k
              ∙ ap (λ o. option_map_or (booked_since (folded_at r k) k) o []) (sym (ap (λ l. slice_get l k) only ∙ get-set_other r.connections conn k to apart))
              ∙ ap (λ f. option_map_or (booked_since (get_or f k 0) k) (slice_get r'.connections k) []) (sym stays)
        ];
        before = λ k d is.
            subst (λ f. get_or f k 0 ≤ length d.answers) (sym stays)
            (each-set (λ k (d : Connection). folded_at r k ≤ length d.answers) r.connections conn c to at (before-more (folded_at r conn) c.answers to.answers s.new (word.before conn c at) s.answers) word.before k d
            (ap (λ l. slice_get l k) (sym only) ∙ is));
      }

hears : (conn : ℕ) (bytes : List ℕ) (now : ℕ) (r r' : Run) (c : Connection) → slice_get r.connections conn ≡ Some c → c.ended ≡ false → Hears conn bytes now r r' c → RunInvariant r → RunInvariant r'
hears conn bytes now r r' c at open_yet heard word =
    let read : messages c.stream ≡ raws c.answers = subst (λ b. AreRead b c.stream c.answers) open_yet (word.read conn c at) in
    let written : c.output ≡ replies conn c.answers = subst (λ b. AreWritten b conn c.answers c.output) open_yet (word.written conn c at) in
    elim heard.does [
      | inl s ↦ served conn r r' c heard.to at heard.only heard.stays (reads_on conn bytes now r.history r'.history c heard.to read written s) word
      | inr s ↦ served conn r r' c heard.to at heard.only heard.stays (ends_within conn bytes now r.history r'.history c heard.to read written s) word
    ]

hears_if : (b : Bool) (conn : ℕ) (bytes : List ℕ) (now : ℕ) (r r' : Run) (c : Connection) → slice_get r.connections conn ≡ Some c → c.ended ≡ b → HearsIf b conn bytes now r r' c → RunInvariant r → RunInvariant r'
hears_if true conn bytes now r r' c at is heard word = subst RunInvariant (sym heard) word
hears_if false conn bytes now r r' c at is heard word = hears conn bytes now r r' c at is heard word

pub hears_at : (o : Option Connection) (conn : ℕ) (bytes : List ℕ) (now : ℕ) (r r' : Run) → slice_get r.connections conn ≡ o → HearsAt o conn bytes now r r' → RunInvariant r → RunInvariant r'
hears_at None conn bytes now r r' at heard word = subst RunInvariant (sym heard) word
hears_at (Some c) conn bytes now r r' at heard word = hears_if c.ended conn bytes now r r' c at refl heard word
