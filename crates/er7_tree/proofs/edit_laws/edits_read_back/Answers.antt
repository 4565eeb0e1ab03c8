use Rattle.std.proofs.Common.{◌∙◌, ap, inl, inr, [], not}
use Rattle.std.specs.List.{list_all}
use Rattle.er7_tree.specs.Path.{raw}
use Rattle.er7_tree.specs.Escape.{escape, plain}
use Rattle.er7_tree.specs.Tree.{Tree, has_name}
use Rattle.er7_tree.proofs.EditLaws.{set_puts, copy_puts, clear_puts, clear_empty, remove_gives, puts_same, filter-passes}
use Rattle.er7_tree.proofs.Editing.{fits-escape, fits-raw, fits-empty}
use Rattle.er7_tree.proofs.Messages.{delims_are}
use Rattle.er7_tree.proofs.RoundTrip.{plain-escape}
use Rattle.er7_tree.proofs.edit_laws.edits_read_back.Goals as goal

pub returns-clause-set : goal.returns-clause-set
returns-clause-set c = λ t u p bytes whole path gave.
    puts_same t u p (escape t.delims bytes) whole path (set_puts t u p bytes gave) (fits-escape t.delims (delims_are t whole) p.part bytes)

pub returns-clause-meaning : goal.returns-clause-meaning
returns-clause-meaning c = λ t u p bytes whole path gave.
    ap (λ (v : Tree). plain v.delims (raw u p)) (set_puts t u p bytes gave).is ∙ ap (plain t.delims) (returns-clause-set c t u p bytes whole path gave)
    ∙ plain-escape t.delims (delims_are t whole) bytes

pub returns-clause-copy : goal.returns-clause-copy
returns-clause-copy c = λ t u from to whole path path_to gave.
    let (free, same, puts) = copy_puts t u from to gave in puts_same t u to (raw t from) whole path_to puts (fits-raw t whole from to path free same)

pub returns-clause-clear : goal.returns-clause-clear
returns-clause-clear c = λ t u p whole path gave.
    elim (clear_puts t u p gave).1 [
      | inl puts ↦ puts_same t u p [] whole path puts (fits-empty t.delims p.part)
      | inr none ↦ ap (λ u. raw u p) none.1 ∙ clear_empty t whole p path (clear_puts t u p gave).0 none.0
    ]

pub returns-clause-remove_segments : goal.returns-clause-remove_segments
returns-clause-remove_segments c = λ t u name gave.
    let (named, other, is) = remove_gives t u name gave in
    ap (λ (u : Tree). list_all (λ segment. not (has_name name segment)) u.segments) is ∙ filter-passes (λ segment. not (has_name name segment)) t.segments
