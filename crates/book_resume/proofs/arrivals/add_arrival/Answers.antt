use Rattle.std.proofs.Common.{◌≡◌, ◌++◌, [], ◌∷◌, ℕ, List, false, None, Some, IfSome, sym, ◌∙◌, ap, subst}
use Rattle.std.specs.Prelude.{is_some}
use Rattle.hl7_head.specs.Header.{header_of}
use Rattle.judge_core.specs.Judging.{key_by, key_of}
use Rattle.dup_index.specs.inner.Known.{place_of}
use Rattle.book_resume.specs.inner.Keys.{known_as}
use Rattle.book_resume.proofs.KeysRead.{key-found, none-of}
use Rattle.book_resume.proofs.arrivals.add_arrival.Goals as goal

pub returns-then-is_some-clause-refused : goal.returns-then-is_some-clause-refused
returns-then-is_some-clause-refused g c = λ is message none.
    let found : header_of c.args.arrival.now.raw ≡ Some c.in-Some.header
    = ap header_of (sym c.raw.ensures) ∙ subst (λ o. IfSome o (λ h. header_of c.raw.result.now ≡ Some h)) c.in-Some.is c.in_ok-header.ensures.header in
    let own : c.in_ok-key.key ≡ key_of c.args.arrival.now.channel c.args.arrival.now.raw
    = c.in_ok-key.ensures ∙ (ap (λ (k : ℕ). key_by k c.in-Some.header) c.channel.ensures ∙ key-found c.args.arrival.now.channel c.args.arrival.now.raw c.in-Some.header found) in
    let gone : c.find.result ≡ None
    = c.find.ensures ∙ (ap (λ (k : List ℕ). place_of k c.args.keys.now.known) (c.as_slice.ensures ∙ own) ∙ none) in
    let no : c.is_some.result ≡ false = c.is_some.ensures ∙ ap is_some gone in
    let yes = c.if-is_some.true in absurd cc

pub returns-clause-key : goal.returns-clause-key
returns-clause-key g c =
    let found : header_of c.args.arrival.now.raw ≡ Some c.in-Some.header
    = ap header_of (sym c.raw.ensures) ∙ subst (λ o. IfSome o (λ h. header_of c.raw.result.now ≡ Some h)) c.in-Some.is c.in_ok-header.ensures.header in
    let own : c.in_ok-key.key ≡ key_of c.args.arrival.now.channel c.args.arrival.now.raw
    = c.in_ok-key.ensures ∙ (ap (λ (k : ℕ). key_by k c.in-Some.header) c.channel.ensures ∙ key-found c.args.arrival.now.channel c.args.arrival.now.raw c.in-Some.header found) in
    let known : c.in_ok-known.known ≡ known_as c.args.arrival.now
    = c.in_ok-known.ensures ∙ (λ i. record { key = (c.as_slice-2.ensures ∙ own) i; place = (c.in_ok-offset_32.ensures ∙ c.place.ensures) i }) in
    c.add.ensures.known
    ∙ (ap (λ ks. ks ++ c.in_ok-known.known ∷ []) c.in_ok-reserve.ensures.known ∙ ap (λ k. c.args.keys.now.known ++ k ∷ []) known)

pub returns-clause-unknown : goal.returns-clause-unknown
returns-clause-unknown g c =
    let found : header_of c.args.arrival.now.raw ≡ Some c.in-Some.header
    = ap header_of (sym c.raw.ensures) ∙ subst (λ o. IfSome o (λ h. header_of c.raw.result.now ≡ Some h)) c.in-Some.is c.in_ok-header.ensures.header in
    let own : c.in_ok-key.key ≡ key_of c.args.arrival.now.channel c.args.arrival.now.raw
    = c.in_ok-key.ensures ∙ (ap (λ (k : ℕ). key_by k c.in-Some.header) c.channel.ensures ∙ key-found c.args.arrival.now.channel c.args.arrival.now.raw c.in-Some.header found) in
    sym (c.find.ensures ∙ ap (λ (k : List ℕ). place_of k c.args.keys.now.known) (c.as_slice.ensures ∙ own))
    ∙ none-of c.find.result (sym c.is_some.ensures ∙ c.if-is_some.false)
