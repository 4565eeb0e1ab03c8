-- The kinds of values.
use Rattle.std.specs.Prelude.{ℕ, pos, List, length, codes, Bool, ◌&&◌, ◌||◌, nat_le, ◌==◌, if◌then◌else◌, Option, Some, None, Result, Ok, Err}
use Rattle.std.specs.List.{list_any, list_all, before_first, after_first}
use Rattle.std.specs.Str.{bytes_eq}
use Rattle.toml.specs.Data.{Data, string, integer}
use Rattle.plan_text.specs.declared.fault.PlanFaultKind.{PlanFaultKind}
use Rattle.plan_text.specs.declared.fault.PlanFaultKind.TheVariants as name
use Rattle.plan_text.specs.declared.destination.Await.{Await}
use Rattle.plan_text.specs.declared.destination.Await.TheVariants as await
use Rattle.plan_text.specs.declared.channel.MessageType.{MessageType}
use Rattle.plan_text.specs.declared.channel.MessageType.TheVariants as type
use Rattle.plan_text.specs.declared.channel.ProcessingId.{ProcessingId}
use Rattle.plan_text.specs.declared.channel.ProcessingId.TheVariants as processing
use Rattle.plan_text.specs.declared.channel.VersionId.{VersionId}
use Rattle.plan_text.specs.declared.channel.VersionId.TheVariants as version

abbrev pub within : ℕ → ℕ → ℕ → Bool
within low high n = nat_le low n && nat_le n high

-- a value in its range
abbrev pub in_range : {A : Type 0} → Option A → Result A PlanFaultKind
in_range None = Err name.BadRange
in_range (Some x) = Ok x

-- a text of a form
abbrev pub text_as : {A : Type 0} → (List ℕ → Option A) → Data → Result A PlanFaultKind
text_as form (string s) = in_range (form s)
text_as form _ = Err name.BadRange

-- a text whose count of bytes is within two bounds
abbrev pub bytes_within : ℕ → ℕ → List ℕ → Option (List ℕ)
bytes_within low high s = if within low high (length s) then Some s else None

abbrev pub text_within : ℕ → ℕ → Data → Result (List ℕ) PlanFaultKind
text_within low high = text_as (bytes_within low high)

-- a number within bounds
abbrev pub number_within : ℕ → ℕ → Data → Result ℕ PlanFaultKind
number_within low high (integer (pos n)) = if within low high n then Ok n else Err name.BadRange
number_within low high _ = Err name.BadRange

-- A to Z, a to z, 0 to 9, _ and -
abbrev pub is_name_byte : ℕ → Bool
is_name_byte b = (within 65 90 b || within 97 122 b) || (within 48 57 b || (b == 95 || b == 45))

abbrev pub is_plan_name : List ℕ → Bool
is_plan_name s = within 1 32 (length s) && list_all is_name_byte s

-- one of these has the name
abbrev pub is_one_named : {A : Type 0} → (A → List ℕ) → List A → List ℕ → Bool
is_one_named name_of xs name = list_any (λ x. bytes_eq (name_of x) name) xs

-- a name that isn't taken
abbrev pub new_name : (List ℕ → Bool) → Data → Result (List ℕ) PlanFaultKind
new_name taken (string s) = if is_plan_name s then (if taken s then Err name.DoubleName else Ok s) else Err name.BadRange
new_name taken _ = Err name.BadRange

-- what a delivery waits for
abbrev pub await_word : List ℕ → Option Await
await_word s = if bytes_eq s (codes "ack") then Some await.Ack else if bytes_eq s (codes "none") then Some await.None else None

-- A to Z, 0 to 9
abbrev pub is_code_byte : ℕ → Bool
is_code_byte b = within 65 90 b || within 48 57 b

-- a message code or a trigger event
abbrev pub is_code : List ℕ → Bool
is_code s = within 1 16 (length s) && list_all is_code_byte s

-- the code and the event on both sides of a ^
abbrev pub code_and_event : List ℕ → List ℕ → Option MessageType
code_and_event code event = if is_code code && is_code event then Some (type.CodeAndEvent code event) else None

-- *, CODE or CODE^EVENT
abbrev pub message_type : List ℕ → Option MessageType
message_type s =
    if bytes_eq s (codes "*") then Some type.Any
    else if is_code s then Some (type.Code s)
    else code_and_event (before_first (λ b. b == 94) s) (after_first (λ b. b == 94) s)

-- P, T or D (table 0103)
abbrev pub processing_id : List ℕ → Option ProcessingId
processing_id s =
    if bytes_eq s (codes "P") then Some processing.Production
    else if bytes_eq s (codes "T") then Some processing.Training
    else if bytes_eq s (codes "D") then Some processing.Debugging
    else None

-- * or a text of 1 to 16 bytes
abbrev pub version_id : List ℕ → Option VersionId
version_id s = if bytes_eq s (codes "*") then Some version.Any else if within 1 16 (length s) then Some (version.Exactly s) else None
