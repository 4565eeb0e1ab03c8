-- Worked steps.
use Rattle.std.proofs.Common.{◌≡◌, ℕ, List, [], ◌∷◌, Some, None, Ok, Err, refl, codes}
use Rattle.er7_tree.specs.declared.path.Part.{Part}
use Rattle.er7_tree.specs.declared.path.Part.TheVariants.{Whole, Component}
use Rattle.er7_tree.specs.Path.{Place}
use Rattle.er7_tree.specs.Tree.{Tree}
use Rattle.hl7_transform.specs.declared.step_check.StepCheck.TheVariants.{BadPath, ForbiddenWrite}
use Rattle.hl7_transform.specs.declared.fault.StepFault.TheVariants.{Stopped}
use Rattle.hl7_transform.specs.declared.fault.StopCause.TheVariants.{NoSuchSegment, NotInTable}
use Rattle.hl7_transform.specs.Check.{check_step}
use Rattle.hl7_transform.specs.Step.{set, copy, clear, lookup, remove, after_steps}

abbrev with_person : List (List ℕ) → Tree
with_person others = record {
  delims = record { field = 124; component = 94; repetition = 126; escape = 92; subcomponent = 38 };
  segments = codes "MSH|^~\\&|REG|||||||M1" ∷ others;
}

-- a message of one patient
abbrev message : Tree
message = with_person (codes "PID|1||77^^^H||DOE^J|\"\"" ∷ [])

abbrev place : List ℕ → ℕ → Part → Place
place segment field part = record { segment = segment; occurrence = 1; field = field; part = part }

abbrev pid : ℕ → Part → Place
pid field part = place (codes "PID") field part

copies_a_component : after_steps (copy (pid 5 (Component 1 1)) (pid 5 (Component 1 2)) ∷ []) message ≡ Ok (with_person (codes "PID|1||77^^^H||DOE^DOE|\"\"" ∷ []))
copies_a_component = refl

copies_from_the_header : after_steps (copy (place (codes "MSH") 10 Whole) (pid 2 Whole) ∷ []) message ≡ Ok (with_person (codes "PID|1|M1|77^^^H||DOE^J|\"\"" ∷ []))
copies_from_the_header = refl

copies_what_is_absent : after_steps (copy (pid 9 Whole) (pid 3 Whole) ∷ []) message ≡ Ok (with_person (codes "PID|1||||DOE^J|\"\"" ∷ []))
copies_what_is_absent = refl

clears_nothing : after_steps (clear (pid 9 Whole) ∷ []) message ≡ Ok message
clears_nothing = refl

clears_in_no_segment : after_steps (clear (place (codes "PV1") 2 Whole) ∷ []) message ≡ Ok message
clears_in_no_segment = refl

clears_a_component : after_steps (clear (pid 3 (Component 1 4)) ∷ []) message ≡ Ok (with_person (codes "PID|1||77^^^||DOE^J|\"\"" ∷ []))
clears_a_component = refl

removes_nothing : after_steps (remove (codes "ZZZ") ∷ []) message ≡ Ok message
removes_nothing = refl

removes_a_segment : after_steps (remove (codes "PID") ∷ []) message ≡ Ok (with_person [])
removes_a_segment = refl

sets_an_escaped_text : after_steps (set (pid 4 Whole) (codes "O&M") ∷ []) message ≡ Ok (with_person (codes "PID|1||77^^^H|O\\T\\M|DOE^J|\"\"" ∷ []))
sets_an_escaped_text = refl

sets_what_is_absent : after_steps (set (pid 8 Whole) (codes "F") ∷ []) message ≡ Ok (with_person (codes "PID|1||77^^^H||DOE^J|\"\"||F" ∷ []))
sets_what_is_absent = refl

abbrev sexes : List (List ℕ × List ℕ)
sexes = (codes "1", codes "A") ∷ (codes "2", codes "B") ∷ []

looks_up_a_partner : after_steps (lookup (pid 1 Whole) sexes None ∷ []) message ≡ Ok (with_person (codes "PID|A||77^^^H||DOE^J|\"\"" ∷ []))
looks_up_a_partner = refl

looks_up_the_default : after_steps (lookup (pid 5 (Component 1 2)) sexes (Some (codes "U")) ∷ []) message ≡ Ok (with_person (codes "PID|1||77^^^H||DOE^U|\"\"" ∷ []))
looks_up_the_default = refl

not_in_the_table : after_steps (lookup (pid 1 Whole) ((codes "2", codes "B") ∷ []) None ∷ []) message ≡ Err (Stopped 0 NotInTable)
not_in_the_table = refl

absent_in_the_table : after_steps (lookup (place (codes "PV1") 2 Whole) (([], codes "O") ∷ []) None ∷ []) message ≡ Err (Stopped 0 NoSuchSegment)
absent_in_the_table = refl

no_segment_for_the_second : after_steps (clear (pid 3 Whole) ∷ set (place (codes "PV1") 2 Whole) (codes "I") ∷ []) message ≡ Err (Stopped 1 NoSuchSegment)
no_segment_for_the_second = refl

sees_the_step_before : after_steps (set (pid 1 Whole) (codes "2") ∷ lookup (pid 1 Whole) sexes None ∷ []) message ≡ Ok (with_person (codes "PID|B||77^^^H||DOE^J|\"\"" ∷ []))
sees_the_step_before = refl

no_steps : after_steps [] message ≡ Ok message
no_steps = refl

may_set : check_step (set (place (codes "MSH") 9 (Component 1 2)) (codes "A08")) ≡ Ok tt
may_set = refl

set_of_delimiters : check_step (set (place (codes "MSH") 2 Whole) (codes "^~\\&")) ≡ Err ForbiddenWrite
set_of_delimiters = refl

set_of_the_control_id : check_step (set (place (codes "MSH") 10 Whole) (codes "1")) ≡ Err ForbiddenWrite
set_of_the_control_id = refl

clear_in_the_control_id : check_step (clear (place (codes "MSH") 10 (Component 1 1))) ≡ Err ForbiddenWrite
clear_in_the_control_id = refl

lookup_of_the_separator : check_step (lookup (place (codes "MSH") 1 Whole) [] None) ≡ Err ForbiddenWrite
lookup_of_the_separator = refl

copy_between_levels : check_step (copy (pid 3 (Component 1 1)) (pid 2 Whole)) ≡ Err BadPath
copy_between_levels = refl

copy_between_levels_to_the_control_id : check_step (copy (pid 3 (Component 1 1)) (place (codes "MSH") 10 Whole)) ≡ Err BadPath
copy_between_levels_to_the_control_id = refl

copy_of_the_delimiters : check_step (copy (place (codes "MSH") 2 Whole) (pid 2 Whole)) ≡ Err BadPath
copy_of_the_delimiters = refl

copy_to_the_delimiters : check_step (copy (pid 2 Whole) (place (codes "MSH") 2 Whole)) ≡ Err BadPath
copy_to_the_delimiters = refl

copy_to_the_control_id : check_step (copy (pid 2 Whole) (place (codes "MSH") 10 Whole)) ≡ Err ForbiddenWrite
copy_to_the_control_id = refl

copy_of_the_control_id : check_step (copy (place (codes "MSH") 10 Whole) (pid 2 Whole)) ≡ Ok tt
copy_of_the_control_id = refl

removal_of_the_header : check_step (remove (codes "MSH")) ≡ Err ForbiddenWrite
removal_of_the_header = refl

removal_of_no_name : check_step (remove (codes "MSHX")) ≡ Err BadPath
removal_of_no_name = refl

removal_of_any_other : check_step (remove (codes "ZZZ")) ≡ Ok tt
removal_of_any_other = refl
