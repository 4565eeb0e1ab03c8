-- What is told of a chain whose step fails.
use Rattle.std.proofs.Common.{◌≡◌, ℕ, List, Option, Some, None, Result, Ok, Err, true, refl, sym, ap, nat_le}
use Rattle.std.specs.Option.{ok_or}
use Rattle.toml.specs.Data.{Data, Items}
use Rattle.er7_tree.specs.Path.{Place, path_of}
use Rattle.er7_tree.specs.declared.refusal.Refusal.{Refusal}
use Rattle.plan_text.specs.declared.fault.PlanFaultKind.{PlanFaultKind}
use Rattle.plan_text.specs.declared.fault.PlanFaultKind.TheVariants as name
use Rattle.plan_text.specs.declared.fault.PlanFault.{PlanFault}
use Rattle.plan_text.specs.declared.fault.Stop.{Stop}
use Rattle.plan_text.specs.declared.fault.Stop.TheVariants as stop
use Rattle.er7_tree.specs.Tree.{◌>>=◌}
use Rattle.plan_text.specs.Fault.{told, fault_at}
use Rattle.plan_text.specs.inner.Fault.{Fails, IsStop}
use Rattle.plan_text.specs.Keys.{required, item_count}
use Rattle.plan_text.specs.Conditions.{path_by, path_in, path_and_text, path_and_texts, text_pair, text_and_list, all_texts}

-- a step that fails ends its chain
pub told_stops : {A B : Type 0} (e : Stop) (at : List ℕ) (r : Result A PlanFaultKind) (f : A → Result B PlanFaultKind) → Fails e (told at r) → Fails e (told at (r >>= f))
told_stops stop.NoMemory at r f h = tt
told_stops (stop.Fault x) at (Ok y) f h = cc
told_stops (stop.Fault x) at (Err n) f h = let same : fault_at n at ≡ x = cc in ap (λ (g : PlanFault). Err g) same

pub bad_path : (e : Stop) (at : List ℕ) (text : List ℕ) (r : Refusal) (x : Refusal) → ok_or (path_of text) r ≡ Err x → IsStop e (fault_at name.BadPath at) → Fails e (told at (path_in text))
bad_path e at text r x h is = by_place e (path_of text) h is
  where
    by_place : (e : Stop) (o : Option Place) → ok_or o r ≡ Err x → IsStop e (fault_at name.BadPath at) → Fails e (told at (path_by o))
    by_place e (Some place) h is = cc
    by_place stop.NoMemory None h is = tt
    by_place (stop.Fault f) None h is = ap (λ (g : PlanFault). Err g) (sym is)

pub path_and_text-fails : (e : Stop) (at : List ℕ) (v : Option Data) (d : Data) (p t : List ℕ) → v ≡ Some d → Some (p, t) ≡ text_pair d
    → Fails e (told at (path_in p)) → Fails e (told at (required path_and_text v))
path_and_text-fails e at v d p t h pair bad = rw (h, ← pair) (told_stops e at (path_in p) _ bad)

pub path_and_texts-fails : (e : Stop) (at : List ℕ) (v : Option Data) (d : Data) (p : List ℕ) (ds : Items) (texts : List (List ℕ)) → v ≡ Some d → Some (p, ds) ≡ text_and_list d
    → Some texts ≡ all_texts ds → nat_le (item_count ds) 256 ≡ true
    → Fails e (told at (path_in p)) → Fails e (told at (required path_and_texts v))
path_and_texts-fails e at v d p ds texts h pair all few bad = rw (h, ← pair, ← all, few) (told_stops e at (path_in p) _ bad)

told_goes : {A B : Type 0} (at : List ℕ) (r : Result A PlanFaultKind) (x : A) (f : A → Result B PlanFaultKind) → told at r ≡ Ok x → told at (r >>= f) ≡ told at (f x)
told_goes at (Ok y) x f h = let same : y ≡ x = cc in rw same refl
told_goes at (Err n) x f h = cc

pub path_and_texts-reads : (at : List ℕ) (v : Option Data) (d : Data) (p : List ℕ) (ds : Items) (texts : List (List ℕ)) (place : Place) → v ≡ Some d → Some (p, ds) ≡ text_and_list d
    → Some texts ≡ all_texts ds → nat_le (item_count ds) 256 ≡ true
    → told at (path_in p) ≡ Ok place → told at (required path_and_texts v) ≡ Ok (place, texts)
path_and_texts-reads at v d p ds texts place h pair all few is = rw (h, ← pair, ← all, few) (told_goes at (path_in p) place _ is)
