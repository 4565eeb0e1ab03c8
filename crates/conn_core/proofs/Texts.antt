-- What a text is: no message, an acknowledgment, or a message to be answered.
use Rattle.std.proofs.Common.{◌≡◌, ℕ, Bool, true, false, not, List, Option, None, Some, is_none, refl, sym, ap, ◌∙◌, ◌<◌, ◌==◌, ⊎_elim, lit<, arith}
use Rattle.std.proofs.lemmas.Bool.{eqb-true, or_cases}
use Rattle.std.specs.Option.{option_map_or}
use Rattle.hl7_head.specs.Header.{Msh, header_of}
use Rattle.hl7_head.specs.inner.Laws.{AreControl}
use Rattle.judge_core.specs.Judging.{is_acknowledgment, is_bookable, is_unreadable, is_stray}
use Rattle.mllp_frame.specs.Framing.{end_block, is_framing, start_block}

-- a text without a header
pub record IsNoMessage (raw : List ℕ) : Type 0 where
  pub unreadable : is_unreadable raw ≡ true
  pub stray : is_stray raw ≡ false
  pub bookable : is_bookable raw ≡ false

pub no_message : (raw : List ℕ) → header_of raw ≡ None → IsNoMessage raw
no_message raw is =
    record {
      unreadable = ap is_none is;
      stray = ap (λ (h : Option Msh). option_map_or is_acknowledgment h false) is;
      bookable = ap (λ (h : Option Msh). option_map_or (λ m. not (is_acknowledgment m)) h false) is;
    }

-- an acknowledgment
pub record IsStrayText (raw : List ℕ) : Type 0 where
  pub unreadable : is_unreadable raw ≡ false
  pub stray : is_stray raw ≡ true

not_false : (b : Bool) → not b ≡ false → b ≡ true
not_false true h = refl
not_false false h = cc

pub stray_text : (raw : List ℕ) (h : Msh) → header_of raw ≡ Some h → is_bookable raw ≡ false → IsStrayText raw
stray_text raw h is unbookable =
    let told : not (is_acknowledgment h) ≡ false = sym (ap (λ (o : Option Msh). option_map_or (λ m. not (is_acknowledgment m)) o false) is) ∙ unbookable in
    record {
      unreadable = ap is_none is;
      stray = ap (λ (o : Option Msh). option_map_or is_acknowledgment o false) is ∙ not_false (is_acknowledgment h) told;
    }

-- a message to be answered
pub record IsMessageText (raw : List ℕ) : Type 0 where
  pub unreadable : is_unreadable raw ≡ false
  pub stray : is_stray raw ≡ false

not_true : (b : Bool) → not b ≡ true → b ≡ false
not_true true h = cc
not_true false h = refl

pub message_text : (raw : List ℕ) (h : Msh) → header_of raw ≡ Some h → is_bookable raw ≡ true → IsMessageText raw
message_text raw h is bookable =
    let told : not (is_acknowledgment h) ≡ true = sym (ap (λ (o : Option Msh). option_map_or (λ m. not (is_acknowledgment m)) o false) is) ∙ bookable in
    record {
      unreadable = ap is_none is;
      stray = ap (λ (o : Option Msh). option_map_or is_acknowledgment o false) is ∙ not_true (is_acknowledgment h) told;
    }

-- the two framing bytes are control bytes
pub framing_bytes_are_controls : AreControl is_framing
framing_bytes_are_controls b is =
    ⊎_elim (λ start. at b start_block (eqb-true b start_block start) (lit< tt) (λ e. cc)) (λ end. at b end_block (eqb-true b end_block end) (lit< tt) (λ e. cc))
    (or_cases (b == start_block) (b == end_block) is)
  where
    at : (b n : ℕ) → b ≡ n → n < 32 → (n ≡ 13 → ⊥) → (b < 32) × (b ≡ 13 → ⊥)
    at b n is small other = (omega (arith, is, small), λ e. other (sym is ∙ e))

-- a text whose arrival is booked is a message
pub bookable_text : (raw : List ℕ) → is_bookable raw ≡ true → IsMessageText raw
bookable_text raw bookable =
    go (header_of raw) refl
  where
    go : (o : Option Msh) → header_of raw ≡ o → IsMessageText raw
    go None is = let none : is_bookable raw ≡ false = ap (λ (h : Option Msh). option_map_or (λ m. not (is_acknowledgment m)) h false) is in cc
    go (Some h) is = message_text raw h is bookable

pub unreadable_text : (raw : List ℕ) → is_unreadable raw ≡ true → IsNoMessage raw
unreadable_text raw unreadable =
    go (header_of raw) refl
  where
    go : (o : Option Msh) → header_of raw ≡ o → IsNoMessage raw
    go None is = no_message raw is
    go (Some h) is = let readable : is_unreadable raw ≡ false = ap is_none is in cc

-- an acknowledgment is booked nowhere
pub stray_known : (raw : List ℕ) → is_stray raw ≡ true → IsStrayText raw × (is_bookable raw ≡ false)
stray_known raw stray =
    go (header_of raw) refl
  where
    go : (o : Option Msh) → header_of raw ≡ o → IsStrayText raw × (is_bookable raw ≡ false)
    go None is = let none : is_stray raw ≡ false = ap (λ (h : Option Msh). option_map_or is_acknowledgment h false) is in cc
    go (Some h) is =
        let told : is_acknowledgment h ≡ true = sym (ap (λ (o : Option Msh). option_map_or is_acknowledgment o false) is) ∙ stray in
        (record { unreadable = ap is_none is; stray = stray }, ap (λ (o : Option Msh). option_map_or (λ m. not (is_acknowledgment m)) o false) is ∙ ap not told)
