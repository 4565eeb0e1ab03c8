-- The replies to one list after another.
use Rattle.std.proofs.Common.{◌≡◌, ℕ, ◌+◌, suc, List, [], ◌∷◌, ◌++◌, length, map, take, get_or, Option, None, Result, Ok, Err, OnOk, OnErr, refl, sym, ap, ◌∙◌, append_assoc, append-nil, length-append, arith}
use Rattle.std.specs.List.{flat_map}
use Rattle.std.specs.Option.{option_to_list}
use Rattle.std.proofs.lemmas.List.{map-append}
use Rattle.ack_rule.specs.declared.mode.AckMode.{AckMode}
use Rattle.ack_rule.specs.declared.verdictum.Verdictum.{Verdictum}
use Rattle.ack_rule.specs.Due.{ack_mode, due}
use Rattle.conn_core.specs.declared.booking.Unbooked.{Unbooked}
use Rattle.event_log.specs.declared.entry.Told.{Told}
use Rattle.hl7_head.specs.declared.ack.AckPart.{AckPart}
use Rattle.hl7_head.specs.Header.{Msh}
use Rattle.conn_core.specs.inner.Outcomes.{AppendsInPart}
use Rattle.conn_core.specs.inner.Replies.{RepliesView}
use Rattle.conn_core.specs.Replies.{Due, reply, numbered, dues_by, told_of}

pub numbered-append : (conn first : ℕ) (xs ys : List Due) → numbered conn first (xs ++ ys) ≡ numbered conn first xs ++ numbered conn (first + length xs) ys
numbered-append conn first [] ys = ap (λ n. numbered conn n ys) (omega arith)
numbered-append conn first (x ∷ xs) ys =
    let same : (first + 1) + length xs ≡ first + length (x ∷ xs) = omega arith in
    ap (λ l. reply conn (first, x) ++ l) (numbered-append conn (first + 1) xs ys)
    ∙ sym (append_assoc (reply conn (first, x)) (numbered conn (first + 1) xs) (numbered conn ((first + 1) + length xs) ys))
    ∙ ap (λ n. numbered conn first (x ∷ xs) ++ numbered conn n ys) same

-- ---- the acknowledgments of one message, which are two at most

two_of : {X : Type 0} (xs : List X) (d : X) → length xs ≡ 2 → xs ≡ get_or xs 0 d ∷ get_or xs 1 d ∷ []
two_of [] d two = absurd (omega (arith, two))
two_of (x ∷ []) d two = absurd (omega (arith, two))
two_of (x ∷ y ∷ []) d two = refl
two_of (x ∷ y ∷ z ∷ xs) d two = absurd (omega (arith, two))

abbrev pub due_part : Msh → ℕ → AckPart → Due
due_part h moment part = record { header = h; part = part; moment = moment }

pub dues_two : (h : Msh) (outcome : Result Told Unbooked) (moment : ℕ) (mode : AckMode) (told : Verdictum) (ps : List (Option AckPart)) → length ps ≡ 2
    → flat_map option_to_list ps ≡ due mode told → mode ≡ ack_mode h.accept_type h.application_type → told ≡ told_of outcome
    → dues_by h outcome moment ≡ map (due_part h moment) (option_to_list (get_or ps 0 None)) ++ map (due_part h moment) (option_to_list (get_or ps 1 None))
dues_two h outcome moment mode told ps two are mode_is told_is =
    ap (λ t. map (due_part h moment) (due (ack_mode h.accept_type h.application_type) t)) (sym told_is)
    ∙ ap (λ m. map (due_part h moment) (due m told)) (sym mode_is)
    ∙ ap (map (due_part h moment)) (sym are)
    ∙ ap (λ l. map (due_part h moment) (flat_map option_to_list l)) (two_of ps None two)
    ∙ ap (λ l. map (due_part h moment) (option_to_list (get_or ps 0 None) ++ l)) (append-nil (option_to_list (get_or ps 1 None)))
    ∙ map-append (due_part h moment) (option_to_list (get_or ps 0 None)) (option_to_list (get_or ps 1 None))

length_map : {X Y : Type 0} (f : X → Y) (xs : List X) → length (map f xs) ≡ length xs
length_map f [] = refl
length_map f (x ∷ xs) = ap (λ n. suc n) (length_map f xs)

-- the replies to the first part and then to the second
pub two_parts : (conn made : ℕ) (f : AckPart → Due) (p q : Option AckPart) (made' : ℕ) (ds : List Due) → made' ≡ made + length (option_to_list p)
    → ds ≡ map f (option_to_list p) ++ map f (option_to_list q)
    → numbered conn (made + 1) ds ≡ numbered conn (made + 1) (map f (option_to_list p)) ++ numbered conn (made' + 1) (map f (option_to_list q))
two_parts conn made f p q made' ds counted is =
    let place : (made + 1) + length (map f (option_to_list p)) ≡ made' + 1 = omega (arith, length_map f (option_to_list p), counted) in
    ap (numbered conn (made + 1)) is
    ∙ numbered-append conn (made + 1) (map f (option_to_list p)) (map f (option_to_list q))
    ∙ ap (λ n. numbered conn (made + 1) (map f (option_to_list p)) ++ numbered conn n (map f (option_to_list q))) place

pub second_appended : {E : Type 0} (r : Result (Unit {0}) E) (old mid new one two all : List ℕ) → mid ≡ old ++ one → all ≡ one ++ two → OnOk r (new ≡ mid ++ two) → OnOk r (new ≡ old ++ all)
second_appended (Ok x) old mid new one two all first whole second = second ∙ ap (λ l. l ++ two) first ∙ append_assoc old one two ∙ ap (λ l. old ++ l) (sym whole)
second_appended (Err e) old mid new one two all first whole second = tt

pub take_all : {X : Type 0} (xs ys : List X) → take (length xs) (xs ++ ys) ≡ xs
take_all [] ys = refl
take_all (x ∷ xs) ys = ap (λ l. x ∷ l) (take_all xs ys)

-- memory was refused for the second part: the first is appended
pub second_missing : {E : Type 0} (r : Result (Unit {0}) E) (conn : ℕ) (old mid new : RepliesView) (f : AckPart → Due) (p q : Option AckPart) (ds : List Due)
    → mid.bytes ≡ old.bytes ++ numbered conn (old.made + 1) (map f (option_to_list p)) → mid.made ≡ old.made + length (option_to_list p)
    → ds ≡ map f (option_to_list p) ++ map f (option_to_list q)
    → OnErr r (new.bytes ≡ mid.bytes) → OnErr r (new.made ≡ mid.made) → OnErr r (length (option_to_list q) ≡ 1) → OnErr r (AppendsInPart conn ds old new)
second_missing (Ok x) conn old mid new f p q ds bytes made is same counted one = tt
second_missing (Err e) conn old mid new f p q ds bytes made is same counted one =
    let size : length ds ≡ length (map f (option_to_list p)) + length (map f (option_to_list q)) = ap length is ∙ length-append (map f (option_to_list p)) (map f (option_to_list q)) in
    record {
      count = length (map f (option_to_list p));
      fewer = omega (arith, size, one, length_map f (option_to_list q));
      made = omega (arith, counted, made, length_map f (option_to_list p));
      bytes =
          same ∙ bytes
          ∙ ap (λ l. old.bytes ++ numbered conn (old.made + 1) l)
          (sym (ap (take (length (map f (option_to_list p)))) is ∙ take_all (map f (option_to_list p)) (map f (option_to_list q))));
    }

-- memory was refused for the first part: none is appended
pub first_missing : {T E : Type 0} (r : Result T E) (conn : ℕ) (old new : RepliesView) (f : AckPart → Due) (p q : Option AckPart) (ds : List Due)
    → ds ≡ map f (option_to_list p) ++ map f (option_to_list q)
    → new.bytes ≡ old.bytes → new.made ≡ old.made → length (option_to_list p) ≡ 1 → OnErr r (AppendsInPart conn ds old new)
first_missing (Ok x) conn old new f p q ds is same counted one = tt
first_missing (Err e) conn old new f p q ds is same counted one =
    let size : length ds ≡ length (map f (option_to_list p)) + length (map f (option_to_list q)) = ap length is ∙ length-append (map f (option_to_list p)) (map f (option_to_list q)) in
    record {
      count = 0;
      fewer = omega (arith, size, one, length_map f (option_to_list p));
      made = omega (arith, counted);
      bytes = same ∙ sym (append-nil old.bytes);
    }

pub counted_two : {E : Type 0} (r : Result (Unit {0}) E) (made mid new : ℕ) (f : AckPart → Due) (p q : Option AckPart) (ds : List Due) → mid ≡ made + length (option_to_list p)
    → ds ≡ map f (option_to_list p) ++ map f (option_to_list q) → OnOk r (new ≡ mid + length (option_to_list q)) → OnOk r (new ≡ made + length ds)
counted_two (Ok x) made mid new f p q ds first is second =
    omega (arith, second, first, ap length is ∙ length-append (map f (option_to_list p)) (map f (option_to_list q)), length_map f (option_to_list p), length_map f (option_to_list q))
counted_two (Err e) made mid new f p q ds first is second = tt
