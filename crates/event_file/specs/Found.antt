-- What the records of a file are.
use Rattle.std.specs.Prelude.{◌≡◌, ℕ, List, map}
use Rattle.sqlite_disk.specs.declared.Disk.{Ghosts}
use Rattle.sqlite_pages.specs.PageMap.{PageMap}
use Rattle.sqlite_pool.specs.Stored.{Recovers}
use Rattle.sqlite_store.specs.declared.store.open.Unopened.{Unopened}
use Rattle.sqlite_store.specs.Unopened.{state_of, image, wanted_by}
use Rattle.sqlite_store.specs.Listing.{file_trees}
use Rattle.sqlite_wal.specs.Recovery.{Image}
use Rattle.sqlite_trees.specs.Tree.{Trees}
use Rattle.sqlite_trees.specs.Objects.{version_tree, version_rows}
use Rattle.sqlite_store.specs.declared.catalog.Wanted.{Wanted}
use Rattle.event_store.specs.Records.{Contents, records_in, contents}

-- The user version of the file is 0: its records are in the format that this crate reads.
abbrev pub IsOfFormat : Trees → Type 0
IsOfFormat db = db version_tree ≡ version_rows 0

-- The database is of this format, and what was read is what its records have.
pub record IsReadFrom (db : Trees) (found : List Contents) : Type 0 where
  pub format : IsOfFormat db
  pub exact : found ≡ map contents (records_in db)

module _ {D : Type 0} {g : Ghosts D} where
  -- These are the records of pages that the two files recover to.
  abbrev pub AreHeldBy : Unopened D g → List Contents → Type 0
  AreHeldBy files found =
      (pages : PageMap) × Recovers (state_of files).page_size (image files) pages
      × IsReadFrom (file_trees (state_of files).page_size (wanted_by files) pages) found

-- These are the records of pages that a database file and its log with these bytes recover to.
abbrev pub AreHeldIn : Image → List Contents → Type 0
AreHeldIn bytes found =
    (size : ℕ) × (schema : List Wanted) × (pages : PageMap) × Recovers size bytes pages
    × IsReadFrom (file_trees size schema pages) found
