-- The steps of a framer, by what their searches found.
use Rattle.std.proofs.Common.{◌≡◌, ℕ, ◌+◌, ◌-◌, ◌<◌, ◌≤◌, true, ◌==◌, List, [], ◌∷◌, ◌++◌, length, take, drop, get_or, refl, sym, ap, ◌∙◌, subst, arith, length-take, append_assoc, ⊎_elim}
use Rattle.std.proofs.lemmas.Bool.{eqb-true, ne_eqb, or_cases}
use Rattle.std.proofs.lemmas.List.{take_rest, drop_more, drop-drop}
use Rattle.std.proofs.lemmas.List.Elements.{recursion_from_All, All-from_recursion}
use Rattle.memchr.specs.Find.{Passes, Nowhere, NoneBefore, is_byte, is_byte2}
use Rattle.mllp_frame.specs.declared.Break.TheVariants.{NewStart, BadEnd}
use Rattle.mllp_frame.specs.Event.{FramingEvent, block, broken}
use Rattle.mllp_frame.specs.Framing.{start_block, end_block, carriage_return, data_max, ended_block}
use Rattle.mllp_frame.specs.inner.Framing.{shortened, least_too_long, begun_block, ending_block}
use Rattle.mllp_frame.specs.inner.Stage.{Reads, IsShortData}
use Rattle.mllp_frame.proofs.Cuts.{Plain, Plain-append, Plain-take}
use Rattle.mllp_frame.proofs.Searching.{fails_before, fails_all, split_at}
use Rattle.mllp_frame.proofs.Rules.{ended_block-whole}
use Rattle.mllp_frame.proofs.ReadSteps.{outside_none, outside_start, inside_data, inside_start, inside_end, ended_whole, ended_bad}

-- what is left behind a place, as `&piece[at..]` reads it
abbrev pub behind : List ℕ → ℕ → List ℕ
behind piece at = take (length piece - at) (drop at piece)

plain_of : (d : List ℕ) → IsShortData d → Plain d
plain_of d short = recursion_from_All _ d short.plain

pub short_more : (d more : List ℕ) → IsShortData d → Plain more → IsShortData (shortened (d ++ more))
short_more d more old new = record {
  plain = All-from_recursion _ (shortened (d ++ more)) (Plain-take least_too_long (d ++ more) (Plain-append d more (plain_of d old) new));
  bounded = omega (arith, length-take least_too_long (d ++ more));
}

pub short_none : IsShortData []
short_none = record { plain = λ k d below. absurd (omega arith); bounded = omega arith }

-- a string round the place of a byte
round : (piece : List ℕ) (at b : ℕ) → at < length piece → get_or piece at 0 ≡ b → piece ≡ take at piece ++ b ∷ behind piece (at + 1)
round piece at b fits is =
    split_at piece at fits
    ∙ ap (λ x. take at piece ++ x ∷ drop (at + 1) piece) is
    ∙ ap (λ l. take at piece ++ b ∷ l) (sym (take_rest piece (at + 1)))

module _ (old : List FramingEvent) (piece : List ℕ) where
  pub no_start : Nowhere (Passes (is_byte start_block) piece) 0 (length piece) → Reads old old piece []
  no_start none = outside_none old piece (fails_all (is_byte start_block) piece none)

  pub some_start : (at : ℕ) → NoneBefore (Passes (is_byte start_block) piece) 0 (length piece) at → Passes (is_byte start_block) piece at → Reads old old piece (start_block ∷ behind piece (at + 1))
  some_start at first is =
      let whole : piece ≡ take at piece ++ start_block ∷ behind piece (at + 1) = round piece at start_block first.high (eqb-true _ _ is) in
      subst (λ l. Reads old old l (start_block ∷ behind piece (at + 1))) (sym whole)
      (outside_start old (take at piece) (behind piece (at + 1)) (fails_before (is_byte start_block) piece at (omega (arith, first.high)) first.before))

  pub data_all : (d : List ℕ) → IsShortData d → Nowhere (Passes (is_byte2 start_block end_block) piece) 0 (length piece) → Reads old old (begun_block d ++ piece) (begun_block (shortened (d ++ piece)) ++ [])
  data_all d short none = inside_data old d piece (plain_of d short) (fails_all (is_byte2 start_block end_block) piece none)

  pub plain_all : Nowhere (Passes (is_byte2 start_block end_block) piece) 0 (length piece) → Plain piece
  plain_all none = fails_all (is_byte2 start_block end_block) piece none

  pub plain_before : (at : ℕ) → NoneBefore (Passes (is_byte2 start_block end_block) piece) 0 (length piece) at → Plain (take at piece)
  plain_before at first = fails_before (is_byte2 start_block end_block) piece at (omega (arith, first.high)) first.before

  pub data_start : (d : List ℕ) (at : ℕ) → IsShortData d → NoneBefore (Passes (is_byte2 start_block end_block) piece) 0 (length piece) at → get_or piece at 0 ≡ start_block → Reads old (old ++ broken NewStart ∷ []) (begun_block d ++ piece) (start_block ∷ behind piece (at + 1))
  data_start d at short first is =
      let whole : piece ≡ take at piece ++ start_block ∷ behind piece (at + 1) = round piece at start_block first.high is in
      subst (λ l. Reads old (old ++ broken NewStart ∷ []) (begun_block d ++ l) (start_block ∷ behind piece (at + 1))) (sym whole)
      (inside_start old d (take at piece) (behind piece (at + 1)) (plain_of d short) (plain_before at first))

  other : (b : ℕ) → is_byte2 start_block end_block b ≡ true → (b ≡ start_block → ⊥) → b ≡ end_block
  other b is apart = ⊎_elim (λ start. absurd (apart (eqb-true _ _ start))) (λ end. eqb-true _ _ end) (or_cases (b == start_block) (b == end_block) is)

  pub data_end : (d : List ℕ) (at : ℕ) → IsShortData d → NoneBefore (Passes (is_byte2 start_block end_block) piece) 0 (length piece) at → Passes (is_byte2 start_block end_block) piece at → (get_or piece at 0 ≡ start_block → ⊥) → Reads old old (begun_block d ++ piece) (ending_block (shortened (d ++ take at piece)) ++ behind piece (at + 1))
  data_end d at keeps first is apart =
      let whole : piece ≡ take at piece ++ end_block ∷ behind piece (at + 1) = round piece at end_block first.high (other (get_or piece at 0) is apart) in
      subst (λ l. Reads old old (begun_block d ++ l) (ending_block (shortened (d ++ take at piece)) ++ behind piece (at + 1))) (sym whole)
      (inside_end old d (take at piece) (behind piece (at + 1)) (plain_of d keeps) (plain_before at first))

  pub first_of : (b : ℕ) → 0 < length piece → get_or piece 0 0 ≡ b → piece ≡ b ∷ behind piece 1
  first_of b some is = round piece 0 b some is

  pub whole_block : (d : List ℕ) → IsShortData d → 0 < length piece → get_or piece 0 0 ≡ carriage_return → Reads old (old ++ ended_block d ∷ []) (ending_block d ++ piece) (behind piece 1)
  whole_block d short some is =
      subst (λ l. Reads old (old ++ ended_block d ∷ []) (ending_block d ++ l) (behind piece 1)) (sym (first_of carriage_return some is))
      (ended_whole old d (behind piece 1) (plain_of d short))

  pub bad_end : (d : List ℕ) → IsShortData d → 0 < length piece → (get_or piece 0 0 ≡ carriage_return → ⊥) → Reads old (old ++ broken BadEnd ∷ []) (ending_block d ++ piece) piece
  bad_end d short some apart =
      subst (λ l. Reads old (old ++ broken BadEnd ∷ []) (ending_block d ++ l) l) (sym (first_of (get_or piece 0 0) some refl))
      (ended_bad old d (behind piece 1) (get_or piece 0 0) (plain_of d short) (ne_eqb _ _ apart))

  -- a whole block at the front
  pub taken_block : (hay : List ℕ) (at : ℕ) → piece ≡ start_block ∷ hay → NoneBefore (Passes (is_byte2 start_block end_block) hay) 0 (length hay) at → length (take at hay) ≤ data_max → at + 1 < length hay
      → get_or hay at 0 ≡ end_block → get_or hay (at + 1) 0 ≡ carriage_return → Reads old (old ++ block (take at hay) ∷ []) piece (drop (at + 3) piece)
  taken_block hay at is first fits room ends returns =
      let d = take at hay in
      let rest = drop (at + 2) hay in
      let two : at + 1 + 1 ≡ at + 2 = omega arith in
      let three : 1 + (at + 2) ≡ at + 3 = omega arith in
      let behind_end : drop (at + 1) hay ≡ carriage_return ∷ rest =
      drop_more hay (at + 1) 0 room ∙ ap (λ x. x ∷ drop (at + 1 + 1) hay) returns ∙ ap (λ n. carriage_return ∷ drop n hay) two in
      let whole : hay ≡ d ++ end_block ∷ carriage_return ∷ rest =
      split_at hay at first.high ∙ ap (λ x. d ++ x ∷ drop (at + 1) hay) ends ∙ ap (λ l. d ++ end_block ∷ l) behind_end in
      let left : drop (at + 3) piece ≡ rest = ap (λ n. drop n piece) (sym three) ∙ sym (drop-drop (at + 2) 1 piece) ∙ ap (λ l. drop (at + 2) (drop 1 l)) is in
      let plain : Plain d = fails_before (is_byte2 start_block end_block) hay at (omega (arith, first.high)) first.before in
      let read = ended_whole old d rest plain in
      let at_start : ending_block d ++ carriage_return ∷ rest ≡ piece =
      ap (λ l. start_block ∷ l) (append_assoc d (end_block ∷ []) (carriage_return ∷ rest) ∙ sym whole) ∙ sym is in
      subst (λ e. Reads old (old ++ e ∷ []) piece (drop (at + 3) piece)) (ended_block-whole d fits)
      (subst (λ l. Reads old (old ++ ended_block d ∷ []) piece l) (sym left) (subst (λ l. Reads old (old ++ ended_block d ∷ []) l rest) at_start read))
