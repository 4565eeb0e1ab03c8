use Rattle.std.proofs.Common.{◌∙◌, ap, inl, inr, refl, [], not}
use Rattle.std.specs.List.{list_all}
use Rattle.er7_tree.specs.Delims.{lacks}
use Rattle.er7_tree.specs.Path.{raw}
use Rattle.er7_tree.specs.Escape.{escape}
use Rattle.er7_tree.specs.Tree.{Tree, has_name}
use Rattle.er7_tree.proofs.EditLaws.{set_puts, copy_puts, clear_puts, remove_gives, puts_lacks, escape_lacks}
use Rattle.er7_tree.proofs.EditedMessages.{filter-all}
use Rattle.er7_tree.proofs.Editing.{fits-escape, fits-raw, fits-empty}
use Rattle.er7_tree.proofs.Lacking.{raw_lacks}
use Rattle.er7_tree.proofs.Messages.{delims_are}
use Rattle.er7_tree.proofs.edit_laws.edits_add_no_byte.Goals as goal

pub returns-clause-set : goal.returns-clause-set
returns-clause-set c = λ b t u p bytes whole path gave control lack.
    let good = delims_are t whole in
    puts_lacks t u p (escape t.delims bytes) whole path (set_puts t u p bytes gave) (fits-escape t.delims good p.part bytes) b (escape_lacks t.delims good b bytes control) lack

pub returns-clause-copy : goal.returns-clause-copy
returns-clause-copy c = λ b t u from to whole path path_to gave lack.
    let (free, same, puts) = copy_puts t u from to gave in
    puts_lacks t u to (raw t from) whole path_to puts (fits-raw t whole from to path free same) b (raw_lacks b t from whole lack) lack

pub returns-clause-clear : goal.returns-clause-clear
returns-clause-clear c = λ b t u p whole path gave lack.
    elim (clear_puts t u p gave).1 [
      | inl puts ↦ puts_lacks t u p [] whole path puts (fits-empty t.delims p.part) b refl lack
      | inr none ↦ ap (λ (u : Tree). list_all (lacks b) u.segments) none.1 ∙ lack
    ]

pub returns-clause-remove_segments : goal.returns-clause-remove_segments
returns-clause-remove_segments c = λ b t u name gave lack.
    let (named, other, is) = remove_gives t u name gave in
    ap (λ (u : Tree). list_all (lacks b) u.segments) is ∙ filter-all (lacks b) (λ segment. not (has_name name segment)) t.segments lack
