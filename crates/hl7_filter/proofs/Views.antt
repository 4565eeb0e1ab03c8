-- The condition that each form of `Cond` says.
use Rattle.std.proofs.Common.{◌≡◌, ℕ, List, Bool, rules, Vec}
use Rattle.std.specs.declared.alloc.Global.{Global}
use Rattle.std.specs.Bool.{Decides}
use Rattle.er7_tree.specs.Path.{Place}
use Rattle.hl7_filter.specs.Condition.{equals, one_of, starts}
use Rattle.hl7_filter.specs.inner.View.{view}
use Rattle.hl7_filter.specs.declared.condition.Cond.{Equals, OneOf, Starts, the_lemmas}

pub view-Equals : (path : Place) (text : List ℕ) → view (Equals path text) ≡ equals path text
view-Equals path text = search (rules, the_lemmas)

pub view-OneOf : (path : Place) (texts : Vec (List ℕ) Global) → view (OneOf path texts) ≡ one_of path texts.items
view-OneOf path texts = search (rules, the_lemmas)

pub view-Starts : (path : Place) (text : List ℕ) → view (Starts path text) ≡ starts path text
view-Starts path text = search (rules, the_lemmas)

-- two that ask for one of some texts are the same where the texts are
pub one_of_alike : (p q : Place) (ts us : List (List ℕ)) (r : Bool) → p ≡ q → Decides r (ts ≡ us) → Decides r (one_of p ts ≡ one_of q us)
one_of_alike p q ts us r same_place d = (λ h. let same : ts ≡ us = d.0 h in cc, λ h. d.1 cc)
