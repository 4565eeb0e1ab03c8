-- What a framer holds between two pieces: its open end gives no event, and is its own open end.
use Rattle.std.proofs.Common.{◌≡◌, ℕ, false, List, [], ◌∷◌, ◌++◌, None, refl, sym, ap, ◌∙◌, subst, append-nil}
use Rattle.std.proofs.lemmas.List.{take_all}
use Rattle.std.proofs.lemmas.List.Elements.{recursion_from_All}
use Rattle.mllp_frame.specs.declared.stage.Stage.{Stage}
use Rattle.mllp_frame.specs.declared.stage.Stage.TheVariants.{Outside, Inside, Ended}
use Rattle.mllp_frame.specs.Event.{FramingEvent}
use Rattle.mllp_frame.specs.inner.Framed.{Framed, fed}
use Rattle.mllp_frame.specs.Framing.{start_block, end_block, decision, block_outcome, blocks}
use Rattle.mllp_frame.specs.inner.Framing.{least_too_long, unfinished, open_end}
use Rattle.mllp_frame.specs.inner.Stage.{Reads, IsShortData, HoldsShortData, open_block}
use Rattle.mllp_frame.proofs.Cuts.{Plain, Stops, NoStart, NoStart-plain, NoStart-append, outcome_of-cut}
use Rattle.mllp_frame.proofs.Appending.{unfinished-cut, blocks-open, blocks-none, open_end-open}

-- a string is all open end
pub record Settled (s : List ℕ) : Type 0 where
  pub silent : blocks s ≡ []
  pub whole : open_end s ≡ s

settled_at : (d r : List ℕ) → IsShortData d → Stops r → NoStart r → decision d r ≡ None → Settled (start_block ∷ (d ++ r))
settled_at d r keeps stops quiet is =
    let plain : Plain d = recursion_from_All _ d keeps.plain in
    let still : block_outcome (d ++ r) ≡ None = outcome_of-cut d r plain stops ∙ is in
    let all : unfinished (d ++ r) ≡ d ++ r = unfinished-cut d r plain stops ∙ ap (λ l. l ++ r) (take_all least_too_long d keeps.bounded) in
    record {
      silent = blocks-open start_block (d ++ r) refl still ∙ blocks-none (d ++ r) (NoStart-append d r (NoStart-plain d plain) quiet);
      whole = open_end-open start_block (d ++ r) refl still ∙ ap (λ l. start_block ∷ l) all;
    }

pub settled : (stage : Stage) → HoldsShortData stage → Settled (open_block stage)
settled Outside keeps = record { silent = refl; whole = refl }
settled (Inside bytes) keeps = subst (λ l. Settled (start_block ∷ l)) (append-nil bytes.items) (settled_at bytes.items [] keeps tt tt refl)
settled (Ended bytes) keeps = settled_at bytes.items (end_block ∷ []) keeps refl (refl, tt) refl

pub fed_is : (old new : List FramingEvent) (stage last : Stage) (piece : List ℕ) → HoldsShortData last → Reads old new (open_block stage ++ piece) (open_block last) → let f : Framed = record { to_come = old; open_end = open_block stage; failed = false } in let g : Framed = record { to_come = new; open_end = open_block last; failed = false } in g ≡ fed f piece
fed_is old new stage last piece keeps reads =
    let still = settled last keeps in
    let added : blocks (open_block stage ++ piece) ≡ reads.added = reads.front ∙ ap (λ l. reads.added ++ l) still.silent ∙ append-nil reads.added in
    let all : new ≡ old ++ blocks (open_block stage ++ piece) = reads.events ∙ ap (λ l. old ++ l) (sym added) in
    let tail : open_block last ≡ open_end (open_block stage ++ piece) = sym still.whole ∙ sym reads.end in
    let with_events : List FramingEvent → Framed = λ l. record { to_come = l; open_end = open_block last; failed = false } in
    let with_end : List ℕ → Framed = λ l. record { to_come = old ++ blocks (open_block stage ++ piece); open_end = l; failed = false } in
    ap with_events all ∙ ap with_end tail
