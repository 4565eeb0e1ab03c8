use Rattle.std.proofs.Common.{◌∙◌, ap, inl, inr, length, []}
use Rattle.er7_tree.specs.Path.{raw}
use Rattle.er7_tree.specs.Escape.{escape}
use Rattle.er7_tree.specs.Tree.{Tree}
use Rattle.er7_tree.proofs.EditLaws.{set_puts, copy_puts, clear_puts, remove_gives, puts_apart, puts_length, removed_apart}
use Rattle.er7_tree.proofs.Editing.{fits-escape, fits-raw, fits-empty}
use Rattle.er7_tree.proofs.Messages.{delims_are}
use Rattle.er7_tree.proofs.edit_laws.edits_leave_the_rest.Goals as goal

pub returns-clause-set : goal.returns-clause-set
returns-clause-set c = λ t u p q bytes whole path path_q gave apart.
    puts_apart t u p (escape t.delims bytes) whole path (set_puts t u p bytes gave) (fits-escape t.delims (delims_are t whole) p.part bytes) q path_q apart

pub returns-clause-copy : goal.returns-clause-copy
returns-clause-copy c = λ t u from to q whole path path_to path_q gave apart.
    let (free, same, puts) = copy_puts t u from to gave in puts_apart t u to (raw t from) whole path_to puts (fits-raw t whole from to path free same) q path_q apart

pub returns-clause-clear : goal.returns-clause-clear
returns-clause-clear c = λ t u p q whole path path_q gave apart.
    elim (clear_puts t u p gave).1 [
      | inl puts ↦ puts_apart t u p [] whole path puts (fits-empty t.delims p.part) q path_q apart
      | inr none ↦ ap (λ u. raw u q) none.1
    ]

pub returns-clause-remove_segments : goal.returns-clause-remove_segments
returns-clause-remove_segments c = λ t u name q whole path gave other.
    let (named, no_header, is) = remove_gives t u name gave in ap (λ u. raw u q) is ∙ removed_apart t whole name named q path other

pub returns-clause-set_count : goal.returns-clause-set_count
returns-clause-set_count c = λ t u p bytes gave. puts_length t u p (escape t.delims bytes) (set_puts t u p bytes gave)

pub returns-clause-copy_count : goal.returns-clause-copy_count
returns-clause-copy_count c = λ t u from to gave. puts_length t u to (raw t from) (copy_puts t u from to gave).2

pub returns-clause-clear_count : goal.returns-clause-clear_count
returns-clause-clear_count c = λ t u p gave.
    elim (clear_puts t u p gave).1 [
      | inl puts ↦ puts_length t u p [] puts
      | inr none ↦ ap (λ (u : Tree). length u.segments) none.1
    ]
