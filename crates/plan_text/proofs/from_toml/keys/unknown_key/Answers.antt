use Rattle.std.proofs.Common.{◌≡◌, ℕ, Bool, List, sym, ◌∙◌, ap, Some, true, false, string_bytes, subst}
use Rattle.std.specs.List.{list_any}
use Rattle.std.specs.Str.{bytes_eq}
use Rattle.std.specs.Map.{keys_of}
use Rattle.toml.specs.View.{table_view}
use Rattle.plan_text.specs.Keys.{unknown_key}
use Rattle.plan_text.proofs.Unknown.{unknown_key-keys, first_unknown, passes, stops, ends}
use Rattle.plan_text.proofs.from_toml.keys.unknown_key.Goals as goal

pub loop-key-init : goal.loop-key-init
loop-key-init c =
    let p : List ℕ → Bool = λ k. list_any (λ l. bytes_eq l.now k) c.args.known.now in
    let shown : keys_of c.args.table.now.entries ≡ c.into_iter-key-iterator.result = cc in
    record { can_next = tt; is_finite = tt; left = unknown_key-keys p c.args.table.now.entries c.keys-key-items.ensures.ordered ∙ ap (λ ks. first_unknown p ks) shown }

pub returns-then-not-is_among : goal.returns-then-not-is_among
returns-then-not-is_among c =
    let p : List ℕ → Bool = λ k. list_any (λ l. bytes_eq l.now k) c.args.known.now in
    let test : p (string_bytes c.in-Some.key.now) ≡ false = subst (λ (k : List ℕ). p k ≡ false) c.as_str-key.ensures.value (sym c.is_among.ensures ∙ c.if-not-is_among.true) in
    ap (λ (k : List ℕ). Some k) c.as_str-key.ensures.value
    ∙ stops p (unknown_key p (table_view c.args.table.now)) c.loop-key.key-iterator c.next.new.self c.in-Some.key.now c.loop-key.invariant.left c.in-Some.ensures.steps test

pub loop-key-preserved : goal.loop-key-preserved
loop-key-preserved c =
    let p : List ℕ → Bool = λ k. list_any (λ l. bytes_eq l.now k) c.args.known.now in
    let test : p (string_bytes c.in-Some.key.now) ≡ true = subst (λ (k : List ℕ). p k ≡ true) c.as_str-key.ensures.value (sym c.is_among.ensures ∙ c.if-not-is_among.false) in
    record {
      can_next = tt;
      is_finite = tt;
      left = passes p (unknown_key p (table_view c.args.table.now)) c.loop-key.key-iterator c.next.new.self c.in-Some.key.now c.loop-key.invariant.left c.in-Some.ensures.steps test;
    }

pub returns : goal.returns
returns c =
    let p : List ℕ → Bool = λ k. list_any (λ l. bytes_eq l.now k) c.args.known.now in
    ends p (unknown_key p (table_view c.args.table.now)) c.loop-key.key-iterator c.loop-key.invariant.left c.in-None.ensures.steps.0
