-- Words on what was read of a request.
use Rattle.std.specs.Prelude.{ℕ, ⊤, Bool, not, ◌&&◌, ◌||◌, ◌≡◌, ◌⊎◌, List, false, map, codes}
use Rattle.std.specs.List.{list_any}
use Rattle.std.specs.Str.{bytes_eq}
use Rattle.httparse.specs.Grammar.{ReadsRequest, RequestHead}
use Rattle.httparse.specs.Spans.{name_and_value}
use Rattle.service_http.specs.inner.Hosts.{is_answered, same_letters}
use Rattle.service_http.specs.declared.request.Request.{Request}
use Rattle.service_http.specs.declared.request.Request.TheVariants.{More, Get, Head, Refused}

-- a field, by its name and its value, that says that a body follows the head
abbrev pub states_body : List ℕ × List ℕ → Bool
states_body field =
    same_letters field.0 (codes "transfer-encoding")
    || (same_letters field.0 (codes "content-length") && not (bytes_eq field.1 (codes "0")))

-- a field that names a host for which nothing is answered
abbrev pub is_foreign : List (List ℕ) → List ℕ × List ℕ → Bool
is_foreign names field = same_letters field.0 (codes "host") && not (is_answered names field.1)

-- a request that is answered, where the hosts of these names are: one that only reads, has no body, and names no foreign host
pub record IsAnswerable (names : List (List ℕ)) (head : RequestHead) : Type 0 where
  pub method : (head.method ≡ codes "GET") ⊎ (head.method ≡ codes "HEAD")
  pub body : list_any states_body (map name_and_value head.fields) ≡ false
  pub host : list_any (is_foreign names) (map name_and_value head.fields) ≡ false

-- the bytes begin with an answerable request for a target
pub record AsksFor (bytes : List ℕ) (names : List (List ℕ)) (target : List ℕ) : Type 0 where
  pub head : RequestHead
  pub rest : List ℕ
  pub reads : ReadsRequest bytes head rest
  pub target_is : target ≡ head.target
  pub answerable : IsAnswerable names head

-- P of the target, where one is asked for
abbrev pub IfAsked : {A : Type 0} → Request A → (A → Type 0) → Type 0
IfAsked More P = ⊤
IfAsked (Get target) P = P target
IfAsked (Head target) P = P target
IfAsked (Refused status) P = ⊤

-- P, where no whole head is there yet
abbrev pub OnMore : {A : Type 0} → Request A → Type 0 → Type 0
OnMore More P = P
OnMore (Get target) P = ⊤
OnMore (Head target) P = ⊤
OnMore (Refused status) P = ⊤
