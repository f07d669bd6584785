-- A file of a tree in memory that gets other bytes.
use Rattle.std.proofs.Common.{◌≡◌, List, ℕ, ◌<◌, ◌≤◌, ◌^◌, ◌∙◌, length, get_or, set, ap, arith}
use Rattle.std.specs.Prelude.{string_bytes}
use Rattle.std.specs.Vec.{vec_capacity}
use Rattle.std.proofs.lemmas.List.{length-set}
use Rattle.std.proofs.lemmas.List.Elements.{All-set}
use Rattle.fix_io.specs.declared.mem_file.MemFile.{MemFile}
use Rattle.fix_io.specs.Files.{paths, with_bytes, IsAscending}
use Rattle.fix_io.specs.MemTree.{MemState, held_files, mem_listed, HaveRoom}
use Rattle.fix_io.proofs.HeldFiles.{replaced, paths-with_bytes}
use Rattle.fix_io.proofs.MemListed.{within_files}

-- the tree's files after such a write
pub record Replaces (files now : List MemFile) (i : ℕ) (bytes : List ℕ) (room : ℕ) : Type 0 where
  pub held : held_files now ≡ with_bytes (held_files files) i bytes
  pub names : paths (held_files now) ≡ paths (held_files files)
  pub ascending : IsAscending (paths (held_files files)) → IsAscending (paths (held_files now))
  pub roomy : HaveRoom room files → HaveRoom room now
  pub few : length files < 2 ^ 32 → length now < 2 ^ 32

pub replaces : (files : List MemFile) (t : MemState) (i room : ℕ) (old new : MemFile) (bytes : List ℕ) → held_files files ≡ t.files → i < length (mem_listed t)
    → old ≡ get_or files i old → string_bytes new.path ≡ string_bytes old.path → new.bytes.items ≡ bytes → vec_capacity old.bytes ≤ vec_capacity new.bytes
    → Replaces files (set files i new) i bytes room
replaces files t i room old new bytes view listed is path same grown =
    let within : i < length files = within_files files t i view listed in
    let held = replaced files i old new bytes within is path same in
    let names : paths (held_files (set files i new)) ≡ paths (held_files files) = ap paths held ∙ paths-with_bytes (held_files files) i bytes in
    record {
      held = held;
      names = names;
      ascending = λ up. rw names up;
      roomy = λ have.
          let had = have i old within in
          let was : room ≤ vec_capacity old.bytes = rw (← is) at had in
          All-set (λ (f : MemFile). room ≤ vec_capacity f.bytes) files i new (omega (arith, was, grown)) have;
      few = λ short. rw length-set short;
    }
