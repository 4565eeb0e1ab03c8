-- The events of a byte string, from its front on.
use Rattle.std.proofs.Common.{◌≡◌, ◌≢◌, ℕ, ◌<◌, ◌≤◌, false, ◌==◌, List, [], ◌∷◌, ◌++◌, length, Some, None, refl, sym, ap, ◌∙◌, subst, append_assoc, append-nil}
use Rattle.std.proofs.lemmas.Bool.{ne_eqb, cond-true, cond-false, le-leb, lt-leb}
use Rattle.std.proofs.lemmas.List.Elements.{recursion_from_All}
use Rattle.mllp_frame.specs.declared.Break.TheVariants.{NewStart, BadEnd, TooLong}
use Rattle.mllp_frame.specs.Event.{FramingEvent, block, broken}
use Rattle.mllp_frame.specs.Framing.{start_block, end_block, carriage_return, data_max, ended_block, decision, blocks, IsData}
use Rattle.mllp_frame.specs.inner.Framing.{HasNoStart}
use Rattle.mllp_frame.proofs.Cuts.{Plain, Stops, NoStart, NoStart-plain, NoStart-append, outcome_of-cut, blocks-quiet}
use Rattle.mllp_frame.proofs.Appending.{blocks-none, blocks-open, blocks-decided}

quiet_of : (s : List ℕ) → HasNoStart s → NoStart s
quiet_of s quiet = recursion_from_All _ s (λ k d below. ne_eqb _ _ (quiet k d below))

plain_of : (d : List ℕ) → IsData d → Plain d
plain_of d plain = recursion_from_All _ d plain

pub rule_none : (s : List ℕ) → HasNoStart s → blocks s ≡ []
rule_none s quiet = blocks-none s (quiet_of s quiet)

module _ (skipped d rest : List ℕ) (quiet : HasNoStart skipped) (plain : IsData d) where
  from_start : (r : List ℕ) → blocks (skipped ++ start_block ∷ (d ++ r)) ≡ blocks (start_block ∷ (d ++ r))
  from_start r = blocks-quiet skipped (start_block ∷ (d ++ r)) (quiet_of skipped quiet)

  at_end : (r : List ℕ) → Stops r → NoStart r → decision d r ≡ None → blocks (skipped ++ start_block ∷ (d ++ r)) ≡ []
  at_end r stops calm is =
      from_start r
      ∙ blocks-open start_block (d ++ r) refl (outcome_of-cut d r (plain_of d plain) stops ∙ is)
      ∙ blocks-none (d ++ r) (NoStart-append d r (NoStart-plain d (plain_of d plain)) calm)

  decided : (r left : List ℕ) (e : FramingEvent) → Stops r → decision d r ≡ Some e → blocks (d ++ r) ≡ blocks left → blocks (skipped ++ start_block ∷ (d ++ r)) ≡ e ∷ blocks left
  decided r left e stops is on =
      from_start r ∙ blocks-decided start_block (d ++ r) e refl (outcome_of-cut d r (plain_of d plain) stops ∙ is) ∙ ap (λ l. e ∷ l) on

  pub rule_data : blocks (skipped ++ start_block ∷ d) ≡ []
  rule_data = subst (λ l. blocks (skipped ++ start_block ∷ l) ≡ []) (append-nil d) (at_end [] tt tt refl)

  pub rule_end : blocks (skipped ++ start_block ∷ (d ++ end_block ∷ [])) ≡ []
  rule_end = at_end (end_block ∷ []) refl (refl, tt) refl

  starting : (r : List ℕ) → decision d (start_block ∷ r) ≡ Some (broken NewStart)
  starting [] = refl
  starting (c ∷ r) = refl

  pub rule_start : blocks (skipped ++ start_block ∷ (d ++ start_block ∷ rest)) ≡ broken NewStart ∷ blocks (start_block ∷ rest)
  rule_start = decided (start_block ∷ rest) (start_block ∷ rest) (broken NewStart) refl (starting rest) (blocks-quiet d (start_block ∷ rest) (NoStart-plain d (plain_of d plain)))

  pub rule_whole : blocks (skipped ++ start_block ∷ (d ++ end_block ∷ carriage_return ∷ rest)) ≡ ended_block d ∷ blocks rest
  rule_whole = decided (end_block ∷ carriage_return ∷ rest) rest (ended_block d) refl refl
      (ap blocks (sym (append_assoc d (end_block ∷ carriage_return ∷ []) rest))
      ∙ blocks-quiet (d ++ end_block ∷ carriage_return ∷ []) rest (NoStart-append d (end_block ∷ carriage_return ∷ []) (NoStart-plain d (plain_of d plain)) (refl, (refl, tt))))

  broken_at : (c : ℕ) → c ≢ carriage_return → decision d (end_block ∷ c ∷ rest) ≡ Some (broken BadEnd)
  broken_at c other = let test : (c == carriage_return) ≡ false = ne_eqb c carriage_return other in rw test

  pub rule_bad : (c : ℕ) → c ≢ carriage_return → blocks (skipped ++ start_block ∷ (d ++ end_block ∷ c ∷ rest)) ≡ broken BadEnd ∷ blocks (c ∷ rest)
  rule_bad c other = decided (end_block ∷ c ∷ rest) (c ∷ rest) (broken BadEnd) refl (broken_at c other)
      (ap blocks (sym (append_assoc d (end_block ∷ []) (c ∷ rest)))
      ∙ blocks-quiet (d ++ end_block ∷ []) (c ∷ rest) (NoStart-append d (end_block ∷ []) (NoStart-plain d (plain_of d plain)) (refl, tt)))

pub ended_block-whole : (d : List ℕ) → length d ≤ data_max → ended_block d ≡ block d
ended_block-whole d fits = cond-true _ _ _ (le-leb (length d) data_max fits)

pub ended_block-long : (d : List ℕ) → data_max < length d → ended_block d ≡ broken TooLong
ended_block-long d long = cond-false _ _ _ (lt-leb (length d) data_max long)
