-- What the target of a request means.
use Rattle.std.specs.Prelude.{ℕ, ◌+◌, ◌*◌, ◌-◌, ◌&&◌, ◌==◌, nat_lt, nat_le, if◌then◌else◌, List, [], ◌∷◌, length, take, drop, Option, None, Some, codes}
use Rattle.std.specs.Borrow.{Bor}
use Rattle.std.specs.Option.{option_map_or}
use Rattle.std.specs.Str.{bytes_eq}
use Rattle.service_http.specs.declared.target.Target.{Target}
use Rattle.service_http.specs.declared.target.Target.TheVariants.{Page, Metrics, Health, Ready, Status, StatusJson, Message, Find, Waiting, Failed, Nothing}

-- a target by the bytes of its text
abbrev pub seen : Target (Bor (List ℕ)) → Target (List ℕ)
seen Page = Page
seen Metrics = Metrics
seen Health = Health
seen Ready = Ready
seen Status = Status
seen StatusJson = StatusJson
seen (Message n) = Message n
seen (Find text) = Find text.now
seen (Waiting text) = Waiting text.now
seen (Failed text) = Failed text.now
seen Nothing = Nothing

-- a text of at least one byte
abbrev pub nonempty : List ℕ → Option (List ℕ)
nonempty [] = None
nonempty (b ∷ bs) = Some (b ∷ bs)

-- what follows a prefix, where at least one byte does
abbrev pub after : List ℕ → List ℕ → Option (List ℕ)
after beginning target =
    if bytes_eq (take (length beginning) target) beginning then nonempty (drop (length beginning) target) else None

-- what precedes a suffix, where at least one byte does
abbrev pub before : List ℕ → List ℕ → Option (List ℕ)
before end text =
    if nat_le (length end) (length text) && bytes_eq (drop (length text - length end) text) end
    then nonempty (take (length text - length end) text) else None

-- what is between a prefix and a suffix, where at least one byte is
abbrev pub between : List ℕ → List ℕ → List ℕ → Option (List ℕ)
between beginning end target = option_map_or (λ text. before end text) (after beginning target) None

-- a number with a decimal digit appended; none at another byte, or at 2^32 and above
abbrev pub with_digit : ℕ → ℕ → Option ℕ
with_digit n b = if (nat_le 48 b && nat_le b 57) && nat_lt (n * 10 + (b - 48)) 4_294_967_296 then Some (n * 10 + (b - 48)) else None

-- the number that decimal digits write when they follow those of n
abbrev pub number_after : ℕ → List ℕ → Option ℕ
number_after n [] = Some n
number_after n (b ∷ bs) = option_map_or (λ m. number_after m bs) (with_digit n b) None

-- the number that a text writes in decimal digits, at least one
abbrev pub number_of : List ℕ → Option ℕ
number_of text = if length text == 0 then None else number_after 0 text

-- what a target means that has a text in it
abbrev pub asked_by_text : List ℕ → Target (List ℕ)
asked_by_text target =
    option_map_or (λ text. Find text) (after (codes "/messages?control_id=") target)
    (option_map_or (λ text. Waiting text) (between (codes "/destinations/") (codes "/waiting") target)
    (option_map_or (λ text. Failed text) (between (codes "/destinations/") (codes "/failed") target)
    (option_map_or (λ text. option_map_or (λ n. Message n) (number_of text) Nothing) (after (codes "/messages/") target) Nothing)))

-- what a target means
abbrev pub target_of : List ℕ → Target (List ℕ)
target_of target =
    if bytes_eq target (codes "/") then Page
    else (if bytes_eq target (codes "/metrics") then Metrics
    else (if bytes_eq target (codes "/healthz") then Health
    else (if bytes_eq target (codes "/readyz") then Ready
    else (if bytes_eq target (codes "/status") then Status
    else (if bytes_eq target (codes "/status.json") then StatusJson
    else asked_by_text target)))))
