use Rattle.std.proofs.Common.{sym, subst, inl, inr}
use Rattle.er7_tree.specs.inner.Tree.{IsMessage}
use Rattle.er7_tree.proofs.EditLaws.{set_puts, copy_puts, clear_puts, remove_gives}
use Rattle.er7_tree.proofs.EditedMessages.{removed}
use Rattle.er7_tree.proofs.Editing.{set_kept, copy_kept, clear_kept}
use Rattle.er7_tree.proofs.Messages.{delims_are}
use Rattle.er7_tree.proofs.edit_laws.edits_keep_messages.Goals as goal

pub returns-clause-set : goal.returns-clause-set
returns-clause-set c = λ t u p bytes whole path gave. let puts = set_puts t u p bytes gave in subst IsMessage (sym puts.is) (set_kept t whole p path puts.free bytes)

pub returns-clause-copy : goal.returns-clause-copy
returns-clause-copy c = λ t u from to whole path path_to gave.
    let (free, same, puts) = copy_puts t u from to gave in subst IsMessage (sym puts.is) (copy_kept t whole from to path path_to free puts.free same)

pub returns-clause-clear : goal.returns-clause-clear
returns-clause-clear c = λ t u p whole path gave.
    elim (clear_puts t u p gave).1 [
      | inl puts ↦ subst IsMessage (sym puts.is) (clear_kept t whole p path puts.free)
      | inr none ↦ subst IsMessage (sym none.1) whole
    ]

pub returns-clause-remove_segments : goal.returns-clause-remove_segments
returns-clause-remove_segments c = λ t u name whole gave.
    let (named, other, is) = remove_gives t u name gave in subst IsMessage (sym is) (removed t.delims (delims_are t whole) name named other t.segments whole)
