-- What an opened store shows is what the files recover to.
use Rattle.std.proofs.Common.{◌≡◌, ℕ, Bool, true, false, IsTrue, List, refl, sym, ap, ◌∙◌, if◌then◌else◌, subst, map}
use Rattle.sqlite_disk.specs.declared.Disk.{Ghosts}
use Rattle.sqlite_trees.specs.View.{doubt}
use Rattle.sqlite_trees.specs.Tree.{Trees}
use Rattle.sqlite_pool.specs.Stored.{Recovers}
use Rattle.sqlite_store.specs.declared.store.open.Unopened.{Unopened}
use Rattle.sqlite_store.specs.declared.store.FileStore.{FileStore}
use Rattle.sqlite_store.specs.Unopened.{state_of, image, wanted_by}
use Rattle.sqlite_store.specs.FileStore.{state, view, schema_of, IsUnaltered}
use Rattle.sqlite_store.specs.Saved.{kept_schema}
use Rattle.sqlite_store.specs.Listing.{file_trees}
use Rattle.event_store.specs.Records.{Contents, records_in, contents}
use Rattle.event_file.specs.Found.{IsReadFrom, IsOfFormat, AreHeldBy}

pub honest : (b : Bool) → doubt b ≡ 0 → IsTrue b
unfolding doubt
honest true none = refl
honest false none = absurd cc

chosen : (b : Bool) (x y : Trees) → IsTrue b → (if b then x else y) ≡ x
chosen true x y is = refl
chosen false x y is = absurd cc

module _ {D : Type 0} {g : Ghosts D} where
  pub held : (files : Unopened D g) (it : FileStore D g) (found : List Contents) → IsTrue (state it).is_clean → Recovers (state_of files).page_size (image files) (state it).committed → IsUnaltered it → schema_of it ≡ wanted_by files
      → (state it).page_size ≡ (state_of files).page_size → IsOfFormat (view it).committed → found ≡ map contents (records_in (view it).committed) → AreHeldBy files found
  held files it found clean recovers same schema size format is =
      let pages = (state it).committed in
      let shown : (view it).committed ≡ file_trees (state_of files).page_size (wanted_by files) pages =
      chosen (state it).is_clean _ _ clean
      ∙ ap (λ s. file_trees (state it).page_size (kept_schema s (schema_of it)) pages) same
      ∙ ap (λ l. file_trees (state it).page_size l pages) schema
      ∙ ap (λ n. file_trees n (wanted_by files) pages) size in
      (pages, recovers, record { format = subst IsOfFormat shown format; exact = is ∙ ap (λ (t : Trees). map contents (records_in t)) shown })
