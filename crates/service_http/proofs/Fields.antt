-- What the fields of a head say, by their spans and by the head itself.
use Rattle.std.proofs.Common.{◌≡◌, ◌⊎◌, ◌∙◌, ◌||◌, ℕ, Bool, false, List, [], ◌∷◌, inl, inr, Ok, map, take, drop, ap, refl, subst, sym, codes}
use Rattle.std.specs.List.{list_any}
use Rattle.httparse.specs.Grammar.{Field}
use Rattle.httparse.specs.Outcome.{IfComplete}
use Rattle.httparse.specs.declared.Error.{Error}
use Rattle.httparse.specs.declared.Status.{Status}
use Rattle.httparse.specs.declared.Status.TheVariants.{Complete}
use Rattle.httparse.specs.Spans.{IsRequestOf, header_bytes, name_and_value, span_bytes}
use Rattle.httparse.specs.declared.spans.HeaderSpan.{HeaderSpan}
use Rattle.httparse.specs.declared.spans.RequestSpans.{RequestSpans}
use Rattle.service_http.specs.inner.Requests.{AsksFor, is_foreign, states_body}

-- a test of what each becomes
pub list_any_map : {X Y : Type 0} (p : X → Bool) (h : Y → X) (ys : List Y) → list_any p (map h ys) ≡ list_any (λ y. p (h y)) ys
list_any_map p h [] = refl
list_any_map p h (y ∷ ys) = ap (λ b. p (h y) || b) (list_any_map p h ys)

-- what no span has no field has
by-spans : (p : List ℕ × List ℕ → Bool) (bytes : List ℕ) (spans : List HeaderSpan) (fields : List Field)
    → map (header_bytes bytes) spans ≡ map name_and_value fields → list_any (λ s. p (header_bytes bytes s)) spans ≡ false
    → list_any p (map name_and_value fields) ≡ false
by-spans p bytes spans fields same none = ap (list_any p) (sym same) ∙ (list_any_map p (header_bytes bytes) spans ∙ none)

-- what holds of a whole head holds of the head that was found
pub complete_of : (P : RequestSpans → Type 0) (s : Status RequestSpans) (r : RequestSpans) → s ≡ Complete r
    → IfComplete {E = Error} (Ok s) P → P r
complete_of P s r is holds = subst (λ (t : Status RequestSpans). IfComplete {E = Error} (Ok t) P) is holds

-- a head that was read, and whose method and fields are as they have to be
pub asks_for : (bytes : List ℕ) (names : List (List ℕ)) (headers : List HeaderSpan) (r : RequestSpans) → IsRequestOf bytes headers r
    → (span_bytes bytes r.method ≡ codes "GET") ⊎ (span_bytes bytes r.method ≡ codes "HEAD")
    → list_any (λ s. states_body (header_bytes bytes s)) (take r.headers headers) ≡ false
    → list_any (λ s. is_foreign names (header_bytes bytes s)) (take r.headers headers) ≡ false
    → AsksFor bytes names (span_bytes bytes r.path)
asks_for bytes names headers r (h, at) method body host = record {
  head = h;
  rest = drop r.len bytes;
  reads = at.reads;
  target_is = at.path;
  answerable = record {
    method = elim method [
      | inl e ↦ inl (sym at.method ∙ e)
      | inr e ↦ inr (sym at.method ∙ e)
    ];
    body = by-spans states_body bytes _ _ at.fields body;
    host = by-spans (is_foreign names) bytes _ _ at.fields host;
  };
}
