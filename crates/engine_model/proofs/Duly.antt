-- The acknowledgments that one list of answers after another is due.
use Rattle.std.proofs.Common.{◌≡◌, List, [], ◌∷◌, ◌++◌, refl, sym, ap, ◌∙◌, append_assoc}
use Rattle.conn_core.specs.Replies.{Answer, dues, dues_of}

pub dues-append : (xs ys : List Answer) → dues (xs ++ ys) ≡ dues xs ++ dues ys
dues-append [] ys = refl
dues-append (x ∷ xs) ys = ap (λ l. dues_of x ++ l) (dues-append xs ys) ∙ sym (append_assoc (dues_of x) (dues xs) (dues ys))
