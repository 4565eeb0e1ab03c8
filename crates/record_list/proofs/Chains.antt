-- What a changed link does to its own chain, and to the others.
use Rattle.std.proofs.Common.{◌≡◌, ℕ, Bool, true, false, cond, List, [], ◌∷◌, ◌++◌, map, slice_index_or, slice_set, refl, sym, ap, ◌∙◌, subst, ◌≢◌, ◌==◌}
use Rattle.std.proofs.lemmas.List.{get_or-set_other}
use Rattle.std.specs.declared.option.Option.{Option}
use Rattle.std.specs.declared.option.Option.TheVariants.{None, Some}
use Rattle.row_store.specs.declared.Row.{Row}
use Rattle.std.specs.Option.{is_some}
use Rattle.std.proofs.Math.Seq.{map-set_same}
use Rattle.record_list.specs.declared.row_head.Place.{Place}
use Rattle.record_list.proofs.Numbers.{number_refl}
use Rattle.record_list.specs.declared.row_head.Link.{Link}
use Rattle.record_list.specs.declared.links.Node.{Node}
use Rattle.record_list.specs.inner.Chain.{place, link, first_or, last_or, chain, entry_of, entries, members, link_at, next_is, prev_is, with_next, with_prev, change_node, change_at, row_of, items_at}
use Rattle.record_list.specs.inner.Linked.{IsNotAmong, IsApart, numbers_in}
use Rattle.record_list.proofs.Change.{set_some}

next_some : (q : Option Place) (o : Option Link) → is_some (next_is q o) ≡ is_some o
next_some q None = refl
next_some q (Some l) = refl

prev_some : (q : Option Place) (o : Option Link) → is_some (prev_is q o) ≡ is_some o
prev_some q None = refl
prev_some q (Some l) = refl

abbrev pub keys : List (ℕ × Link) → List ℕ
keys = map (λ e. e.0)

-- the first entry of the number p is changed by f
abbrev pub change_entry : ℕ → (Link → Link) → List (ℕ × Link) → List (ℕ × Link)
change_entry p f [] = []
change_entry p f (e ∷ es) = cond (e.0 == p) ((e.0, f e.1) ∷ es) (e ∷ change_entry p f es)

pub change_away : (p : ℕ) (f : Link → Link) (es : List (ℕ × Link)) → IsNotAmong p (keys es) → change_entry p f es ≡ es
change_away p f [] a = refl
change_away p f (e ∷ es) a = ap (λ (b : Bool). cond b ((e.0, f e.1) ∷ es) (e ∷ change_entry p f es)) a.0 ∙ ap (λ l. e ∷ l) (change_away p f es a.1)

pub change_here : (p : ℕ) (f : Link → Link) (l : Link) (es : List (ℕ × Link)) → change_entry p f ((p, l) ∷ es) ≡ (p, f l) ∷ es
change_here p f l es = ap (λ (b : Bool). cond b ((p, f l) ∷ es) ((p, l) ∷ change_entry p f es)) (number_refl p)

pub away_append : (p : ℕ) (xs ys : List ℕ) → IsNotAmong p (xs ++ ys) → IsNotAmong p xs × IsNotAmong p ys
away_append p [] ys a = (tt, a)
away_append p (x ∷ xs) ys a = let on = away_append p xs ys a.1 in ((a.0, on.0), on.1)

-- next of the last of the first chain is set, before what follows
pub chain_points_on : (b a q : Option Place) (x : ℕ) (xs : List ℕ) (p : ℕ) (rest : List (ℕ × Link)) → IsApart (x ∷ (xs ++ keys rest)) → last_or (Some (place x)) xs ≡ Some (place p)
    → change_entry p (λ l. record l { next = q }) (chain b (x ∷ xs) a ++ rest) ≡ chain b (x ∷ xs) q ++ rest
chain_points_on b a q x [] p rest d e =
    let at : x ≡ p = ap (λ (o : Option Place). elim o [ None ↦ x | Some r ↦ r.number ]) e in
    subst (λ (y : ℕ). change_entry y (λ l. record l { next = q }) ((x, link b a) ∷ rest) ≡ (x, link b q) ∷ rest) at (change_here x (λ l. record l { next = q }) (link b a) rest)
chain_points_on b a q x (y ∷ ys) p rest d e =
    let f : Link → Link = λ l. record l { next = q } in
    let here : (x == p) ≡ false = apart_last x y ys p (away_append x (y ∷ ys) (keys rest) d.0).0 e in
    ap (λ (c : Bool). cond c ((x, f (link b (Some (place y)))) ∷ (chain (Some (place x)) (y ∷ ys) a ++ rest)) ((x, link b (Some (place y))) ∷ change_entry p f (chain (Some (place x)) (y ∷ ys) a ++ rest))) here
    ∙ ap (λ l. (x, link b (Some (place y))) ∷ l) (chain_points_on (Some (place x)) a q y ys p rest d.1 e)
  where
    symm : (p q : ℕ) → (p == q) ≡ false → (q == p) ≡ false
    symm p q e = Rattle.record_list.proofs.Numbers.number_symm q p e

    apart_last : (x y : ℕ) (ys : List ℕ) (p : ℕ) → IsNotAmong x (y ∷ ys) → last_or (Some (place y)) ys ≡ Some (place p) → (x == p) ≡ false
    apart_last x y [] p d e = symm p x (subst (λ (r : ℕ). (r == x) ≡ false) (ap (λ (o : Option Place). elim o [ None ↦ y | Some r ↦ r.number ]) e) d.0)
    apart_last x y (z ∷ zs) p d e = apart_last x z zs p d.1 e

-- prev of the first of the second chain is set, behind what comes before
pub chain_points_back : (front : List (ℕ × Link)) (b a q : Option Place) (y : ℕ) (ys : List ℕ) → IsApart (keys front ++ y ∷ ys)
    → change_entry y (λ l. record l { prev = q }) (front ++ chain b (y ∷ ys) a) ≡ front ++ chain q (y ∷ ys) a
chain_points_back [] b a q y ys d = change_here y (λ l. record l { prev = q }) (link b (first_or a ys)) (chain (Some (place y)) ys a)
chain_points_back (e ∷ es) b a q y ys d =
    let f : Link → Link = λ l. record l { prev = q } in
    let here : (e.0 == y) ≡ false = Rattle.record_list.proofs.Numbers.number_symm e.0 y (away_append e.0 (keys es) (y ∷ ys) d.0).1.0 in
    ap (λ (c : Bool). cond c ((e.0, f e.1) ∷ (es ++ chain b (y ∷ ys) a)) (e ∷ change_entry y f (es ++ chain b (y ∷ ys) a))) here
    ∙ ap (λ l. e ∷ l) (chain_points_back es b a q y ys d.1)

pub last_is : (x : ℕ) (xs : List ℕ) → (p : ℕ) × (last_or (Some (place x)) xs ≡ Some (place p))
last_is x [] = (x, refl)
last_is x (y ∷ ys) = last_is y ys

pub keys_chain : (b a : Option Place) (xs : List ℕ) (rest : List (ℕ × Link)) → keys (chain b xs a ++ rest) ≡ xs ++ keys rest
keys_chain b a [] rest = refl
keys_chain b a (x ∷ xs) rest = ap (λ l. x ∷ l) (keys_chain (Some (place x)) a xs rest)

pub keys_only : (b a : Option Place) (xs : List ℕ) → keys (chain b xs a) ≡ xs
keys_only b a [] = refl
keys_only b a (x ∷ xs) = ap (λ l. x ∷ l) (keys_only (Some (place x)) a xs)

pub keys_front : (front : List (ℕ × Link)) (b a : Option Place) (ys : List ℕ) → keys (front ++ chain b ys a) ≡ keys front ++ ys
keys_front [] b a ys = keys_only b a ys
keys_front (e ∷ es) b a ys = ap (λ l. e.0 ∷ l) (keys_front es b a ys)

-- two chains that lead to each other are one
pub chain_append : (b a : Option Place) (xs ys : List ℕ) → chain b xs (first_or a ys) ++ chain (last_or b xs) ys a ≡ chain b (xs ++ ys) a
chain_append b a [] ys = refl
chain_append b a (x ∷ []) ys = refl
chain_append b a (x ∷ z ∷ zs) ys = ap (λ l. (x, link b (Some (place z))) ∷ l) (chain_append (Some (place x)) a (z ∷ zs) ys)

module _ {T : Type 0} where
  pub away_members : (d : ℕ) (p : ℕ) (hs : List (Node T)) → IsNotAmong p (numbers_in hs) → IsNotAmong p (members d hs)
  away_members d p [] a = tt
  away_members d p (h ∷ hs) a = (elim (link_at d h) as (λ o. IsNotAmong p (keys (entry_of h.head.number o (entries d hs)))) [
    | None ↦ away_members d p hs a.1
    | Some l ↦ (a.0, away_members d p hs a.1)
  ])

  pub apart_members : (d : ℕ) (hs : List (Node T)) → IsApart (numbers_in hs) → IsApart (members d hs)
  apart_members d [] a = tt
  apart_members d (h ∷ hs) a = (elim (link_at d h) as (λ o. IsApart (keys (entry_of h.head.number o (entries d hs)))) [
    | None ↦ apart_members d hs a.1
    | Some l ↦ (away_members d h.head.number hs a.0, apart_members d hs a.1)
  ])

  -- a change of the link d alone: g says how it changes
  pub record Changes (d : ℕ) (f : Node T → Node T) (g : Link → Link) : Type 0 where
    pub number : (n : Node T) → (f n).head.number ≡ n.head.number
    pub none : (n : Node T) → link_at d n ≡ None → link_at d (f n) ≡ None
    pub some : (n : Node T) (l : Link) → link_at d n ≡ Some l → link_at d (f n) ≡ Some (g l)

  pub entries_changed : (d : ℕ) (p : ℕ) (f : Node T → Node T) (g : Link → Link) → Changes d f g → (hs : List (Node T)) → IsApart (numbers_in hs) → entries d (change_node p f hs) ≡ change_entry p g (entries d hs)
  entries_changed d p f g c [] a = refl
  entries_changed d p f g c (h ∷ hs) a = (elim (h.head.number == p) as (λ y. (h.head.number == p) ≡ y → entries d (change_node p f (h ∷ hs)) ≡ change_entry p g (entries d (h ∷ hs))) [
    | true ↦ λ t. ap (λ (b : Bool). entries d (cond b (f h ∷ hs) (h ∷ change_node p f hs))) t ∙ ap (λ k. entry_of k (link_at d (f h)) (entries d hs)) (c.number h) ∙ here t (link_at d h) refl
    | false ↦ λ t. ap (λ (b : Bool). entries d (cond b (f h ∷ hs) (h ∷ change_node p f hs))) t ∙ ap (λ es. entry_of h.head.number (link_at d h) es) (entries_changed d p f g c hs a.1) ∙ past t (link_at d h)
  ]) refl
    where
      here : (h.head.number == p) ≡ true → (o : Option Link) → link_at d h ≡ o → entry_of h.head.number (link_at d (f h)) (entries d hs) ≡ change_entry p g (entry_of h.head.number (link_at d h) (entries d hs))
      here t None e =
          let far : IsNotAmong p (numbers_in hs) = subst (λ r. IsNotAmong r (numbers_in hs)) (Rattle.record_list.proofs.Numbers.number_eq h.head.number p t) a.0 in
          ap (λ o. entry_of h.head.number o (entries d hs)) (c.none h e) ∙ sym (change_away p g (entries d hs) (away_members d p hs far)) ∙ ap (λ o. change_entry p g (entry_of h.head.number o (entries d hs))) (sym e)
      here t (Some l) e =
          ap (λ o. entry_of h.head.number o (entries d hs)) (c.some h l e) ∙ sym (ap (λ (b : Bool). cond b ((h.head.number, g l) ∷ entries d hs) ((h.head.number, l) ∷ change_entry p g (entries d hs))) t) ∙ ap (λ o. change_entry p g (entry_of h.head.number o (entries d hs))) (sym e)

      past : (h.head.number == p) ≡ false → (o : Option Link) → entry_of h.head.number o (change_entry p g (entries d hs)) ≡ change_entry p g (entry_of h.head.number o (entries d hs))
      past t None = refl
      past t (Some l) = sym (ap (λ (b : Bool). cond b ((h.head.number, g l) ∷ entries d hs) ((h.head.number, l) ∷ change_entry p g (entries d hs))) t)

  -- a change that leaves the link e leaves the chain e
  pub entries_kept : (e : ℕ) (p : ℕ) (f : Node T → Node T) → ((n : Node T) → (f n).head.number ≡ n.head.number) → ((n : Node T) → link_at e (f n) ≡ link_at e n) → (hs : List (Node T)) → entries e (change_node p f hs) ≡ entries e hs
  entries_kept e p f numbers same [] = refl
  entries_kept e p f numbers same (h ∷ hs) = (elim (h.head.number == p) as (λ y. (h.head.number == p) ≡ y → entries e (change_node p f (h ∷ hs)) ≡ entries e (h ∷ hs)) [
    | true ↦ λ t. ap (λ (b : Bool). entries e (cond b (f h ∷ hs) (h ∷ change_node p f hs))) t ∙ (λ i. entry_of (numbers h i) (same h i) (entries e hs))
    | false ↦ λ t. ap (λ (b : Bool). entries e (cond b (f h ∷ hs) (h ∷ change_node p f hs))) t ∙ ap (λ es. entry_of h.head.number (link_at e h) es) (entries_kept e p f numbers same hs)
  ]) refl

  -- the rows stay, and where they have links
  pub items_kept : (p : ℕ) (f : Node T → Node T) → ((n : Node T) → (row_of (f n) ≡ row_of n) × (map is_some (f n).head.links ≡ map is_some n.head.links)) → (hs : List (Node T)) → items_at (change_node p f hs) ≡ items_at hs
  items_kept p f same [] = refl
  items_kept p f same (h ∷ hs) = (elim (h.head.number == p) as (λ y. (h.head.number == p) ≡ y → items_at (change_node p f (h ∷ hs)) ≡ items_at (h ∷ hs)) [
    | true ↦ λ t. ap (λ (b : Bool). items_at (cond b (f h ∷ hs) (h ∷ change_node p f hs))) t ∙ (λ i. ((same h).0 i, (same h).1 i) ∷ items_at hs)
    | false ↦ λ t. ap (λ (b : Bool). items_at (cond b (f h ∷ hs) (h ∷ change_node p f hs))) t ∙ ap (λ l. (row_of h, map is_some h.head.links) ∷ l) (items_kept p f same hs)
  ]) refl

  pub next_changes : (d : ℕ) (q : Option Place) → Changes d (with_next d q) (λ l. record l { next = q })
  next_changes d q = record {
    number = λ n. refl;
    none = λ n e. ap (λ o. slice_index_or (slice_set n.head.links d (next_is q o)) d None) e ∙ ap (λ o. slice_index_or (slice_set n.head.links d o) d None) (sym e) ∙ ap (λ ls. slice_index_or ls d None) (Rattle.std.proofs.lemmas.List.set-get_or n.head.links d None) ∙ e;
    some = λ n l e. set_some n.head.links d l (next_is q (link_at d n)) e ∙ ap (next_is q) e;
  }

  pub prev_changes : (d : ℕ) (q : Option Place) → Changes d (with_prev d q) (λ l. record l { prev = q })
  prev_changes d q = record {
    number = λ n. refl;
    none = λ n e. ap (λ o. slice_index_or (slice_set n.head.links d (prev_is q o)) d None) e ∙ ap (λ o. slice_index_or (slice_set n.head.links d o) d None) (sym e) ∙ ap (λ ls. slice_index_or ls d None) (Rattle.std.proofs.lemmas.List.set-get_or n.head.links d None) ∙ e;
    some = λ n l e. set_some n.head.links d l (prev_is q (link_at d n)) e ∙ ap (prev_is q) e;
  }

  -- the chain d, whose nodes xs are followed by q from here on
  pub points_on : (d : ℕ) (a q : Option Place) (xs : List ℕ) (p : Option Place) (rest : List (ℕ × Link)) (hs : List (Node T)) → IsApart (numbers_in hs) → entries d hs ≡ chain None xs a ++ rest → p ≡ last_or None xs
      → entries d (change_at p (with_next d q) hs) ≡ chain None xs q ++ rest
  points_on d a q [] p rest hs apart e is = ap (λ o. entries d (change_at o (with_next d q) hs)) is ∙ e
  points_on d a q (x ∷ xs) p rest hs apart e is =
      let at = last_is x xs in
      let far = subst IsApart (ap keys e ∙ keys_chain None a (x ∷ xs) rest) (apart_members d hs apart) in
      ap (λ o. entries d (change_at o (with_next d q) hs)) (is ∙ at.1) ∙ entries_changed d at.0 (with_next d q) (λ l. record l { next = q }) (next_changes d q) hs apart
      ∙ ap (change_entry at.0 (λ l. record l { next = q })) e ∙ chain_points_on None a q x xs at.0 rest far at.1

  pub points_back : (d : ℕ) (b q : Option Place) (front : List (ℕ × Link)) (n : Option Place) (ys : List ℕ) (hs : List (Node T)) → IsApart (numbers_in hs) → entries d hs ≡ front ++ chain b ys None → n ≡ first_or None ys
      → entries d (change_at n (with_prev d q) hs) ≡ front ++ chain q ys None
  points_back d b q front n [] hs apart e is = ap (λ o. entries d (change_at o (with_prev d q) hs)) is ∙ e
  points_back d b q front n (y ∷ ys) hs apart e is =
      let far = subst IsApart (ap keys e ∙ keys_front front b None (y ∷ ys)) (apart_members d hs apart) in
      ap (λ o. entries d (change_at o (with_prev d q) hs)) is ∙ entries_changed d y (with_prev d q) (λ l. record l { prev = q }) (prev_changes d q) hs apart
      ∙ ap (change_entry y (λ l. record l { prev = q })) e ∙ chain_points_back front b None q y ys far

  pub others_on : (d e : ℕ) (q : Option Place) (p : Option Place) (hs : List (Node T)) → e ≢ d → entries e (change_at p (with_next d q) hs) ≡ entries e hs
  others_on d e q None hs ne = refl
  others_on d e q (Some at) hs ne = entries_kept e at.number (with_next d q) (λ n. refl) (λ n. get_or-set_other n.head.links d e (next_is q (link_at d n)) None ne) hs

  pub others_back : (d e : ℕ) (q : Option Place) (p : Option Place) (hs : List (Node T)) → e ≢ d → entries e (change_at p (with_prev d q) hs) ≡ entries e hs
  others_back d e q None hs ne = refl
  others_back d e q (Some at) hs ne = entries_kept e at.number (with_prev d q) (λ n. refl) (λ n. get_or-set_other n.head.links d e (prev_is q (link_at d n)) None ne) hs

  pub items_on : (d : ℕ) (q : Option Place) (p : Option Place) (hs : List (Node T)) → items_at (change_at p (with_next d q) hs) ≡ items_at hs
  items_on d q None hs = refl
  items_on d q (Some at) hs = items_kept at.number (with_next d q) (λ n. (refl, map-set_same is_some n.head.links d (next_is q (link_at d n)) None (next_some q (link_at d n)))) hs

  pub items_back : (d : ℕ) (q : Option Place) (p : Option Place) (hs : List (Node T)) → items_at (change_at p (with_prev d q) hs) ≡ items_at hs
  items_back d q None hs = refl
  items_back d q (Some at) hs = items_kept at.number (with_prev d q) (λ n. (refl, map-set_same is_some n.head.links d (prev_is q (link_at d n)) None (prev_some q (link_at d n)))) hs

  -- the numbers are those of the items
  pub numbers_of_items : (hs : List (Node T)) → numbers_in hs ≡ map (λ (i : Row T × List Bool). i.0.number) (items_at hs)
  numbers_of_items [] = refl
  numbers_of_items (h ∷ hs) = ap (λ l. h.head.number ∷ l) (numbers_of_items hs)
