-- The command that a line of the service's standard input is.
use Rattle.std.specs.Prelude.{ℕ, ◌+◌, ◌*◌, ◌-◌, ◌&&◌, ◌==◌, nat_lt, nat_le, if◌then◌else◌, List, [], ◌∷◌, length, take, drop, Option, None, Some, codes, option_and_then}
use Rattle.std.specs.Borrow.{Bor}
use Rattle.std.specs.Option.{option_map_or}
use Rattle.std.specs.Char.{is_ascii_whitespace}
use Rattle.std.specs.List.{position, suffix_len}
use Rattle.std.specs.Str.{bytes_eq}
use Rattle.service_commands.specs.declared.command.Command.{Command}
use Rattle.service_commands.specs.declared.command.Command.TheVariants.{Status, Metrics, Message, Show, ShowAt, Export, Find, Waiting, Deploy, Plan, PlanText, Prune, Failed, Hold, Release, Links, Cancel, CancelAll, CancelAt, CancelWaiting, CancelThrough, Stop, StopNow, Help, Unknown}

-- a command by the bytes of its text
abbrev pub seen : Command (Bor (List ℕ)) → Command (List ℕ)
seen Status = Status
seen Metrics = Metrics
seen (Message n) = Message n
seen (Show n) = Show n
seen (ShowAt n text) = ShowAt n text.now
seen (Export n text) = Export n text.now
seen (Find text) = Find text.now
seen (Waiting text) = Waiting text.now
seen (Deploy text) = Deploy text.now
seen Plan = Plan
seen PlanText = PlanText
seen Prune = Prune
seen (Failed text) = Failed text.now
seen (Hold text) = Hold text.now
seen (Release text) = Release text.now
seen Links = Links
seen (Cancel n) = Cancel n
seen (CancelAll n) = CancelAll n
seen (CancelAt n text) = CancelAt n text.now
seen (CancelWaiting text) = CancelWaiting text.now
seen (CancelThrough text n) = CancelThrough text.now n
seen Stop = Stop
seen StopNow = StopNow
seen Help = Help
seen Unknown = Unknown

-- a text of at least one byte
abbrev pub nonempty : List ℕ → Option (List ℕ)
nonempty [] = None
nonempty (b ∷ bs) = Some (b ∷ bs)

-- what follows a word, which ends with a space, where at least one byte does
abbrev pub argument : List ℕ → List ℕ → Option (List ℕ)
argument word line = if bytes_eq (take (length word) line) word then nonempty (drop (length word) line) else None

-- a number with a decimal digit behind it; none at another byte, or at 2^32 and above
abbrev pub with_digit : ℕ → ℕ → Option ℕ
with_digit n b = if (nat_le 48 b && nat_le b 57) && nat_lt (n * 10 + (b - 48)) 4_294_967_296 then Some (n * 10 + (b - 48)) else None

-- the number that decimal digits write when they follow those of n
abbrev pub number_after : ℕ → List ℕ → Option ℕ
number_after n [] = Some n
number_after n (b ∷ bs) = option_map_or (λ m. number_after m bs) (with_digit n b) None

-- the number that a text writes in decimal digits, at least one
abbrev pub number_of : List ℕ → Option ℕ
number_of text = if length text == 0 then None else number_after 0 text

-- how many bytes there are before the first space of a text, or in all of it
abbrev pub word_len : List ℕ → ℕ
word_len text = option_map_or (λ at. at) (position (λ b. b == 32) text) (length text)

-- cancel N, cancel N all, cancel N NAME, by what follows the number
abbrev pub cancel_of : ℕ → List ℕ → Command (List ℕ)
cancel_of n rest =
    if length rest == 0 then Cancel n
    else (if bytes_eq rest (codes " all") then CancelAll n
    else option_map_or (λ name. CancelAt n name) (argument (codes " ") rest) Unknown)

-- cancel waiting NAME, cancel waiting NAME through N, by the name and what follows it
abbrev pub cancel_waiting_of : List ℕ → List ℕ → Command (List ℕ)
cancel_waiting_of name rest =
    if length name == 0 then Unknown
    else (if length rest == 0 then CancelWaiting name
    else option_map_or (λ n. CancelThrough name n) (option_and_then number_of (argument (codes " through ") rest)) Unknown)

-- what follows the word cancel
abbrev pub cancelling : List ℕ → Command (List ℕ)
cancelling text =
    option_map_or (λ rest. cancel_waiting_of (take (word_len rest) rest) (drop (word_len rest) rest))
    (argument (codes "waiting ") text)
    (option_map_or (λ n. cancel_of n (drop (word_len text) text)) (number_of (take (word_len text) text)) Unknown)

-- export N PATH, by what follows the word
abbrev pub exporting : List ℕ → Command (List ℕ)
exporting text =
    option_map_or (λ n. option_map_or (λ path. Export n path) (argument (codes " ") (drop (word_len text) text)) Unknown)
    (number_of (take (word_len text) text)) Unknown

-- show N, show N NAME, by what follows the number
abbrev pub show_of : ℕ → List ℕ → Command (List ℕ)
show_of n rest =
    if length rest == 0 then Show n
    else option_map_or (λ name. ShowAt n name) (argument (codes " ") rest) Unknown

-- what follows the word show
abbrev pub showing : List ℕ → Command (List ℕ)
showing text = option_map_or (λ n. show_of n (drop (word_len text) text)) (number_of (take (word_len text) text)) Unknown

-- message N, and what begins with show and with cancel
abbrev pub numbered : List ℕ → Command (List ℕ)
numbered line =
    option_map_or (λ text. option_map_or (λ n. Message n) (number_of text) Unknown) (argument (codes "message ") line)
    (option_map_or (λ text. showing text) (argument (codes "show ") line)
    (option_map_or (λ text. cancelling text) (argument (codes "cancel ") line) Unknown))

-- a line without the carriage return at its end
abbrev pub without_return : List ℕ → List ℕ
without_return line = if bytes_eq (drop (length line - 1) line) (codes "\r") then take (length line - 1) line else line

-- a line without the white space at its end
abbrev pub trimmed : List ℕ → List ℕ
trimmed line = take (length line - suffix_len is_ascii_whitespace line) line

-- waiting NAME, failed NAME, hold NAME, release NAME, and what a number follows
abbrev pub listing : List ℕ → Command (List ℕ)
listing line =
    option_map_or (λ text. Waiting text) (argument (codes "waiting ") line)
    (option_map_or (λ text. Failed text) (argument (codes "failed ") line)
    (option_map_or (λ text. Hold text) (argument (codes "hold ") line)
    (option_map_or (λ text. Release text) (argument (codes "release ") line) (numbered line))))

-- the command of a line that is none of find ID, deploy PATH and export N PATH
abbrev pub single : List ℕ → Command (List ℕ)
single line =
    if bytes_eq line (codes "status") then Status
    else (if bytes_eq line (codes "metrics") then Metrics
    else (if bytes_eq line (codes "plan") then Plan
    else (if bytes_eq line (codes "plan text") then PlanText
    else (if bytes_eq line (codes "prune") then Prune
    else (if bytes_eq line (codes "stop") then Stop
    else (if bytes_eq line (codes "stop now") then StopNow
    else (if bytes_eq line (codes "help") then Help
    else (if bytes_eq line (codes "links") then Links
    else listing line))))))))

-- find ID, deploy PATH, export N PATH, with all that follows the word; of any other command white space at its end is dropped
abbrev pub named : List ℕ → Command (List ℕ)
named line =
    option_map_or (λ text. Find text) (argument (codes "find ") line)
    (option_map_or (λ text. Deploy text) (argument (codes "deploy ") line)
    (option_map_or (λ text. exporting text) (argument (codes "export ") line) (single (trimmed line))))

-- the command that a line is
abbrev pub command_of : List ℕ → Command (List ℕ)
command_of line = named (without_return line)
