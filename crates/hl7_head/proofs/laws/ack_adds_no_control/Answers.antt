use Rattle.std.proofs.Common.{◌≡◌, ℕ, ◌≤◌, Bool, false, refl, arith}
use Rattle.std.proofs.lemmas.Bool.{false_from_ne_true}
use Rattle.hl7_head.specs.Header.{header}
use Rattle.hl7_head.specs.inner.Laws.{AreControl}
use Rattle.hl7_head.proofs.AckBytes.{ack_all}
use Rattle.hl7_head.proofs.Bytes.{head_all, message_all}
use Rattle.hl7_head.proofs.laws.ack_adds_no_control.Goals as goal

no_high : (control : ℕ → Bool) → AreControl control → (b : ℕ) → 32 ≤ b → control b ≡ false
no_high control are b high = false_from_ne_true (control b) (λ passes. absurd (omega (arith, (are b passes).0)))

no_return : (control : ℕ → Bool) → AreControl control → control 13 ≡ false
no_return control are = false_from_ne_true (control 13) (λ passes. (are 13 passes).1 refl)

pub returns-clause-segment : goal.returns-clause-segment
returns-clause-segment c control are t message all =
    ack_all (λ b. control b ≡ false) (no_high control are) (no_return control are)
    (header t) c.args.part c.args.moment c.args.connection c.args.number (omega arith) (omega arith)
    (message_all (λ b. control b ≡ false) t message all)

pub returns-clause-text : goal.returns-clause-text
returns-clause-text c control are text h is all =
    ack_all (λ b. control b ≡ false) (no_high control are) (no_return control are)
    h c.args.part c.args.moment c.args.connection c.args.number (omega arith) (omega arith)
    (head_all (λ b. control b ≡ false) text h is all)
