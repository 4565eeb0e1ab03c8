-- What is read of a connection's stream, step by step.
use Rattle.std.proofs.Common.{◌≡◌, ◌∙◌, ℕ, List, [], ◌∷◌, ◌++◌, Option, None, Some, slice_get, drop, map, refl, sym, ap, subst, append_assoc, append-nil}
use Rattle.std.specs.Io.KnownBytes.{Appends}
use Rattle.std.proofs.KnownBytes.{Appends-nil, Appends-trans}
use Rattle.std.proofs.lemmas.List.{map-append}
use Rattle.hl7_head.specs.Msa.{MsaFields}
use Rattle.mllp_frame.specs.Event.{FramingEvent}
use Rattle.mllp_frame.specs.inner.Framed.{Framed, blank, fed}
use Rattle.mllp_frame.specs.Framing.{blocks}
use Rattle.mllp_frame.specs.inner.Framing.{open_end}
use Rattle.conn_worker.proofs.Pieces.{StreamLaws}
use Rattle.conn_worker.proofs.Standing.{first_event}
use Rattle.delivery_worker.specs.Answers.{answer_in}
use Rattle.delivery_worker.specs.inner.Stream.{Goes, ReadsFront, ReadsOn, Receives}

-- no event was read yet
pub reads_none : (f : Framed) (had : List (Option MsaFields)) → ReadsOn f f had had
reads_none f had = record { read = []; front = refl; same_end = refl; answers = sym (append-nil had) }

-- one more event was read
pub reads_one_more : (old f g : Framed) (had mid has : List (Option MsaFields)) (e : FramingEvent) (answer : Option MsaFields) → ReadsOn old f had mid
    → Some e ≡ slice_get f.to_come 0 → g ≡ record f { to_come = drop 1 f.to_come } → answer ≡ answer_in e → has ≡ mid ++ answer ∷ [] → ReadsOn old g had has
reads_one_more old f g had mid has e answer r first gone is grown =
    let taken : e ∷ g.to_come ≡ f.to_come = ap (λ (h : Framed). e ∷ h.to_come) gone ∙ sym (first_event f.to_come e first) in
    record {
      read = r.read ++ e ∷ [];
      front = r.front ∙ ap (λ (l : List FramingEvent). r.read ++ l) (sym taken) ∙ sym (append_assoc r.read (e ∷ []) g.to_come);
      same_end = ap (λ (h : Framed). h.open_end) gone ∙ r.same_end;
      answers = grown ∙ ap (λ (l : List (Option MsaFields)). l ++ answer ∷ []) r.answers ∙ append_assoc had (map answer_in r.read) (answer ∷ [])
          ∙ ap (λ (x : Option MsaFields). had ++ (map answer_in r.read ++ x ∷ [])) is
          ∙ ap (λ (l : List (Option MsaFields)). had ++ l) (sym (map-append answer_in r.read (e ∷ [])));
    }

-- the answers so far, where the rest is lost
pub reads_front : (old f : Framed) (had mid has : List (Option MsaFields)) → ReadsOn old f had mid → has ≡ mid → ReadsFront old had has
reads_front old f had mid has r same = record { read = r.read; later = f.to_come; front = r.front; answers = same ∙ r.answers }

-- events that are read after others
regroup : (passed first second rest : List FramingEvent) → (passed ++ first) ++ (second ++ rest) ≡ (passed ++ (first ++ second)) ++ rest
regroup passed first second rest = sym (append_assoc (passed ++ first) second rest) ∙ ap (λ (l : List FramingEvent). l ++ rest) (append_assoc passed first second)

answers_more : (had mid has : List (Option MsaFields)) (first second : List FramingEvent) → mid ≡ had ++ map answer_in first → has ≡ mid ++ map answer_in second
    → has ≡ had ++ map answer_in (first ++ second)
answers_more had mid has first second one two =
    two ∙ ap (λ (l : List (Option MsaFields)). l ++ map answer_in second) one ∙ append_assoc had (map answer_in first) (map answer_in second)
    ∙ ap (λ (l : List (Option MsaFields)). had ++ l) (sym (map-append answer_in first second))

-- nothing was received, and nothing read
stays : (f : Framed) → Goes (Some f) (Some f) [] []
stays f received passed s =
    record {
      events = ap blocks (append-nil received) ∙ s.events ∙ ap (λ (l : List FramingEvent). l ++ f.to_come) (sym (append-nil passed));
      left_open = s.left_open ∙ ap open_end (sym (append-nil received));
    }

pub receives_none : (f : Framed) (log : Option (List ℕ)) (had : List (Option MsaFields)) → Receives f (Some f) log log had had
receives_none f log had = record { read = []; got = []; answers = sym (append-nil had); logged = Appends-nil log; goes = stays f }

-- more answers were read
pub receives_read : (old f g : Framed) (log logs : Option (List ℕ)) (had mid has : List (Option MsaFields)) → Receives old (Some f) log logs had mid → ReadsOn f g mid has
    → Receives old (Some g) log logs had has
receives_read old f g log logs had mid has r o =
    record {
      read = r.read ++ o.read;
      got = r.got;
      answers = answers_more had mid has r.read o.read r.answers o.answers;
      logged = r.logged;
      goes = λ received passed s.
          let t = r.goes received passed s in
          record {
            events = t.events ∙ ap (λ (l : List FramingEvent). (passed ++ r.read) ++ l) o.front ∙ regroup passed r.read o.read g.to_come;
            left_open = o.same_end ∙ t.left_open;
          };
    }

-- more answers were read, and the connection is lost
pub receives_front : (old f : Framed) (log logs : Option (List ℕ)) (had mid has : List (Option MsaFields)) → Receives old (Some f) log logs had mid → ReadsFront f mid has
    → Receives old None log logs had has
receives_front old f log logs had mid has r o =
    record {
      read = r.read ++ o.read;
      got = r.got;
      answers = answers_more had mid has r.read o.read r.answers o.answers;
      logged = r.logged;
      goes = λ received passed s.
          let t = r.goes received passed s in
          (o.later, t.events ∙ ap (λ (l : List FramingEvent). (passed ++ r.read) ++ l) o.front ∙ regroup passed r.read o.read o.later);
    }

-- the connection is lost
pub receives_lost : (old f : Framed) (log logs : Option (List ℕ)) (had has : List (Option MsaFields)) → Receives old (Some f) log logs had has → Receives old None log logs had has
receives_lost old f log logs had has r =
    record {
      read = r.read;
      got = r.got;
      answers = r.answers;
      logged = r.logged;
      goes = λ received passed s. (f.to_come, (r.goes received passed s).events);
    }

module _ (laws : StreamLaws) where
  -- more bytes came, and the connection is lost
  pub receives_bytes_lost : (old f : Framed) (log mid logs : Option (List ℕ)) (had has : List (Option MsaFields)) → Receives old (Some f) log mid had has
      → (piece : List ℕ) × Appends mid logs piece → Receives old None log logs had has
  receives_bytes_lost old f log mid logs had has r more =
      record {
        read = r.read;
        got = r.got ++ more.0;
        answers = r.answers;
        logged = Appends-trans log mid logs r.got more.0 r.logged more.1;
        goes = λ received passed s.
            let t = r.goes received passed s in
            let added = blocks (open_end (received ++ r.got) ++ more.0) in (
              f.to_come ++ added,
              ap blocks (sym (append_assoc received r.got more.0)) ∙ laws.blocks_are (received ++ r.got) more.0
                  ∙ ap (λ (l : List FramingEvent). l ++ added) t.events ∙ append_assoc (passed ++ r.read) f.to_come added,
            );
      }

  -- more bytes came
  pub receives_bytes : (old f g : Framed) (log mid logs : Option (List ℕ)) (had has : List (Option MsaFields)) → Receives old (Some f) log mid had has
      → (piece : List ℕ) × (g ≡ fed f piece) × Appends mid logs piece → Receives old (Some g) log logs had has
  receives_bytes old f g log mid logs had has r more =
      subst (λ (h : Framed). Receives old (Some h) log logs had has) (sym more.1) (record {
        read = r.read;
        got = r.got ++ more.0;
        answers = r.answers;
        logged = Appends-trans log mid logs r.got more.0 r.logged more.2;
        goes = λ received passed s.
            let t = r.goes received passed s in
            record {
              events = ap blocks (sym (append_assoc received r.got more.0)) ∙ laws.blocks_are (received ++ r.got) more.0
                  ∙ ap (λ (l : List FramingEvent). l ++ blocks (open_end (received ++ r.got) ++ more.0)) t.events
                  ∙ append_assoc (passed ++ r.read) f.to_come (blocks (open_end (received ++ r.got) ++ more.0))
                  ∙ ap (λ (l : List ℕ). (passed ++ r.read) ++ (f.to_come ++ blocks (l ++ more.0))) (sym t.left_open);
              left_open = ap (λ (l : List ℕ). open_end (l ++ more.0)) t.left_open ∙ sym (laws.end_is (received ++ r.got) more.0)
                  ∙ ap open_end (append_assoc received r.got more.0);
            };
      })

-- no connection is open afterwards, and nothing came
pub goes_nowhere : (old : Option Framed) → Goes old None [] []
goes_nowhere None received passed b = ([], rw (b.0, b.1) refl)
goes_nowhere (Some f) received passed b =
    (f.to_come, ap blocks (append-nil received) ∙ b.events ∙ ap (λ (l : List FramingEvent). l ++ f.to_come) (sym (append-nil passed)))

-- from a new connection
pub goes_opened : (f : Framed) (new : Option Framed) (got : List ℕ) (read : List FramingEvent) → f ≡ blank → Goes (Some f) new got read → Goes None new got read
goes_opened f new got read is goes received passed b =
    goes received passed (record { events = rw (b.0, b.1, is) refl; left_open = rw (is, b.0) refl })

-- the connection stays open, and nothing came
pub goes_stays : (f : Framed) → Goes (Some f) (Some f) [] []
goes_stays f = stays f
