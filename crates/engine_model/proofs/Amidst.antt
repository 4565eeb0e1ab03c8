-- Event after event of a piece.
use Rattle.std.proofs.Common.{◌≡◌, ℕ, ◌+◌, ◌<◌, true, false, List, [], ◌∷◌, ◌++◌, length, map, None, Some, Result, refl, sym, ap, ◌∙◌, subst, append_assoc, append-nil, length-append, arith}
use Rattle.std.specs.List.{cons_option}
use Rattle.std.proofs.lemmas.List.{map-append}
use Rattle.std.proofs.lemmas.List.Elements.{filter_map-append}
use Rattle.conn_core.specs.declared.booking.Unbooked.{Unbooked}
use Rattle.event_log.specs.declared.entry.Told.{Told}
use Rattle.event_log.specs.History.{History}
use Rattle.mllp_frame.specs.Event.{FramingEvent}
use Rattle.mllp_frame.specs.Framing.{blocks}
use Rattle.conn_core.specs.Messages.{message_of, messages, messages_of}
use Rattle.conn_core.specs.Replies.{Answer, Due, dues, dues_of, numbered}
use Rattle.conn_core.proofs.Numbering.{numbered-append}
use Rattle.engine_model.proofs.Duly.{dues-append}
use Rattle.engine_model.specs.Run.{Connection}
use Rattle.engine_model.specs.inner.Amid.{Amid}
use Rattle.engine_model.specs.Steps.{AreAnswered, EndsWithin, IsAnswered, ReadsOn, after_answer, after_answers, frame_events_max, history_with}

abbrev raws : List Answer → List (List ℕ)
raws answers = map (λ (a : Answer). a.raw) answers

-- one answer more
pub after_answers-push : (conn channel : ℕ) (h : History) (answers : List Answer) (a : Answer) → after_answers conn channel h (answers ++ a ∷ []) ≡ after_answer conn channel (after_answers conn channel h answers) a
after_answers-push conn channel h [] a = refl
after_answers-push conn channel h (x ∷ answers) a = after_answers-push conn channel (after_answer conn channel h x) answers a

pub answered-push : (conn channel now : ℕ) (h : History) (answers : List Answer) (a : Answer) → AreAnswered conn channel now h answers
    → IsAnswered conn channel (after_answers conn channel h answers) a.raw a.outcome → a.moment ≡ now → AreAnswered conn channel now h (answers ++ a ∷ [])
answered-push conn channel now h [] a all may at = (may, at, tt)
answered-push conn channel now h (x ∷ answers) a all may at = (all.0, all.1, answered-push conn channel now (after_answer conn channel h x) answers a all.2 may at)

-- the replies of one answer more
module _ (conn : ℕ) (c : Connection) (new : List Answer) where
  abbrev first : ℕ
  first = 1 + length (dues c.answers)

  pub next_number : (d : Connection) → d.answers ≡ c.answers ++ new → 1 + length (dues d.answers) ≡ first + length (dues new)
  next_number d grown =
      let size : length (dues d.answers) ≡ length (dues c.answers) + length (dues new) =
      ap (λ l. length (dues l)) grown ∙ ap length (dues-append c.answers new) ∙ length-append (dues c.answers) (dues new) in
      omega arith

  pub sent_more : (d : Connection) (ds : List Due) → d.answers ≡ c.answers ++ new → d.output ≡ c.output ++ numbered conn first (dues new)
      → d.output ++ numbered conn (1 + length (dues d.answers)) ds ≡ c.output ++ numbered conn first (dues new ++ ds)
  sent_more d ds grown output =
      ap (λ n. d.output ++ numbered conn n ds) (next_number d grown)
      ∙ ap (λ l. l ++ numbered conn (first + length (dues new)) ds) output
      ∙ append_assoc c.output (numbered conn first (dues new)) (numbered conn (first + length (dues new)) ds)
      ∙ ap (λ l. c.output ++ l) (sym (numbered-append conn first (dues new) ds))

dues_of-one : (a : Answer) → dues (a ∷ []) ≡ dues_of a
dues_of-one a = append-nil (dues_of a)

-- at its start
pub amid-start : (conn now : ℕ) (h : History) (c c' : Connection) → c'.channel ≡ c.channel → c'.answers ≡ c.answers → c'.output ≡ c.output → c'.ended ≡ false → Amid conn now [] h h c c'
amid-start conn now h c c' channel answers output stays =
    record {
      new = [];
      answered = tt;
      booked = refl;
      channel = channel;
      answers = answers ∙ sym (append-nil c.answers);
      each_once = refl;
      output = output ∙ sym (append-nil c.output);
      stays = stays;
    }

module _ (conn now : ℕ) (handled : List FramingEvent) (h h' : History) (c c' : Connection) (s : Amid conn now handled h h' c c') where
  -- an event that brings no message
  pub amid-passed : (e : FramingEvent) → message_of e ≡ None → Amid conn now (handled ++ e ∷ []) h h' c c'
  amid-passed e none =
      record {
        new = s.new;
        answered = s.answered;
        booked = s.booked;
        channel = s.channel;
        answers = s.answers;
        each_once = filter_map-append message_of handled (e ∷ []) ∙ ap (λ o. messages_of handled ++ cons_option o []) none ∙ append-nil (messages_of handled) ∙ s.each_once;
        output = s.output;
        stays = s.stays;
      }

  -- a message that is answered
  module _ (e : FramingEvent) (raw : List ℕ) (outcome : Result Told Unbooked) (brings : message_of e ≡ Some raw) (may : IsAnswered conn c.channel h' raw outcome) where
    abbrev one : Answer
    one = record { raw = raw; outcome = outcome; moment = now }

    now-answered : AreAnswered conn c.channel now h (s.new ++ one ∷ [])
    now-answered = answered-push conn c.channel now h s.new one s.answered (subst (λ g. IsAnswered conn c.channel g raw outcome) s.booked may) refl

    now-booked : history_with conn c.channel h' raw outcome ≡ after_answers conn c.channel h (s.new ++ one ∷ [])
    now-booked = ap (λ g. history_with conn c.channel g raw outcome) s.booked ∙ sym (after_answers-push conn c.channel h s.new one)

    now-once : messages_of (handled ++ e ∷ []) ≡ raws (s.new ++ one ∷ [])
    now-once =
        filter_map-append message_of handled (e ∷ []) ∙ ap (λ o. messages_of handled ++ cons_option o []) brings
        ∙ ap (λ l. l ++ raw ∷ []) s.each_once ∙ sym (map-append (λ (a : Answer). a.raw) s.new (one ∷ []))

    now-answers : (d : Connection) → d.answers ≡ c'.answers ++ one ∷ [] → d.answers ≡ c.answers ++ (s.new ++ one ∷ [])
    now-answers d grown = grown ∙ ap (λ l. l ++ one ∷ []) s.answers ∙ append_assoc c.answers s.new (one ∷ [])

    -- and all of its replies sent
    pub amid-answered : (d : Connection) → d.channel ≡ c'.channel → d.answers ≡ c'.answers ++ one ∷ []
        → d.output ≡ c'.output ++ numbered conn (1 + length (dues c'.answers)) (dues_of one) → d.ended ≡ false
        → Amid conn now (handled ++ e ∷ []) h (history_with conn c.channel h' raw outcome) c d
    amid-answered d channel grown output stays =
        record {
          new = s.new ++ one ∷ [];
          answered = now-answered;
          booked = now-booked;
          channel = channel ∙ s.channel;
          answers = now-answers d grown;
          each_once = now-once;
          output =
              output
              ∙ sent_more conn c s.new c' (dues_of one) s.answers s.output
              ∙ ap (λ l. c.output ++ numbered conn (1 + length (dues c.answers)) l) (ap (λ l. dues s.new ++ l) (sym (dues_of-one one)) ∙ sym (dues-append s.new (one ∷ [])));
          stays = stays;
        }

    -- or only the first of its replies sent, and the connection ended
    pub amid-cut : (bytes : List ℕ) (later : List FramingEvent) (sent unsent : List Due) (d : Connection) → d.channel ≡ c'.channel → d.stream ≡ c.stream ++ bytes
        → d.answers ≡ c'.answers ++ one ∷ [] → dues_of one ≡ sent ++ unsent
        → d.output ≡ c'.output ++ numbered conn (1 + length (dues c'.answers)) sent → d.ended ≡ true
        → blocks (c.stream ++ bytes) ≡ blocks c.stream ++ ((handled ++ e ∷ []) ++ later)
        → EndsWithin conn bytes now h (history_with conn c.channel h' raw outcome) c d
    amid-cut bytes later sent unsent d channel stream grown due output stops events =
        record {
          new = s.new ++ one ∷ [];
          answered = now-answered;
          booked = now-booked;
          channel = channel ∙ s.channel;
          kept = bytes;
          lost = [];
          piece = sym (append-nil bytes);
          stream = stream;
          answers = now-answers d grown;
          unanswered = messages_of later;
          in_order =
              ap messages stream ∙ ap messages_of events
              ∙ filter_map-append message_of (blocks c.stream) ((handled ++ e ∷ []) ++ later)
              ∙ ap (λ l. messages c.stream ++ l) (filter_map-append message_of (handled ++ e ∷ []) later ∙ ap (λ l. l ++ messages_of later) now-once);
          added = numbered conn (1 + length (dues c.answers)) (dues s.new ++ sent);
          output = output ∙ sent_more conn c s.new c' sent s.answers s.output;
          replies = record { replied = s.new; last = one ∷ []; all = refl; one = omega arith; sent = sent; unsent = unsent; due = dues_of-one one ∙ due; text_is = refl };
          stops = stops;
        }

  -- all events of the piece were handled
  pub amid-done : (bytes : List ℕ) → c'.stream ≡ c.stream ++ bytes → blocks (c.stream ++ bytes) ≡ blocks c.stream ++ handled → length (blocks c'.stream) < frame_events_max
      → ReadsOn conn bytes now h h' c c'
  amid-done bytes stream events within =
      record {
        new = s.new;
        answered = s.answered;
        booked = s.booked;
        channel = s.channel;
        stream = stream;
        answers = s.answers;
        each_once = ap messages stream ∙ ap messages_of events ∙ filter_map-append message_of (blocks c.stream) handled ∙ ap (λ l. messages c.stream ++ l) s.each_once;
        output = s.output;
        stays = s.stays;
        within = within;
      }

  -- the connection ends between two events; the bytes that its stream couldn't take are lost
  pub amid-ends : (kept lost : List ℕ) (later : List FramingEvent) (d : Connection) → d.channel ≡ c'.channel → d.stream ≡ c.stream ++ kept → d.answers ≡ c'.answers → d.output ≡ c'.output → d.ended ≡ true
      → blocks (c.stream ++ kept) ≡ blocks c.stream ++ (handled ++ later)
      → EndsWithin conn (kept ++ lost) now h h' c d
  amid-ends kept lost later d channel stream answers output stops events =
      record {
        new = s.new;
        answered = s.answered;
        booked = s.booked;
        channel = channel ∙ s.channel;
        kept = kept;
        lost = lost;
        piece = refl;
        stream = stream;
        answers = answers ∙ s.answers;
        unanswered = messages_of later;
        in_order =
            ap messages stream ∙ ap messages_of events
            ∙ filter_map-append message_of (blocks c.stream) (handled ++ later)
            ∙ ap (λ l. messages c.stream ++ l) (filter_map-append message_of handled later ∙ ap (λ l. l ++ messages_of later) s.each_once);
        added = numbered conn (1 + length (dues c.answers)) (dues s.new);
        output = output ∙ s.output;
        replies = record {
          replied = s.new;
          last = [];
          all = sym (append-nil s.new);
          one = omega arith;
          sent = [];
          unsent = [];
          due = refl;
          text_is = ap (numbered conn (1 + length (dues c.answers))) (sym (append-nil (dues s.new)));
        };
        stops = stops;
      }
