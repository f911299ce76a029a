-- The operations of a session, their replies, and how paths are parsed.
use Rattle.std.specs.Prelude.{ℕ, Bool, not, ◌==◌, nat_lt, if◌then◌else◌, List, [], ◌∷◌, length, Option, Some, None}
use Rattle.std.specs.List.{flat_map, slice_split, list_all}
use Rattle.lfs_model.specs.format.Names.{Name, is_component, slash_byte}
use Rattle.lfs_model.specs.tree.Tree.{Path}

-- The errors by which a session refuses an operation.
pub data Refusal : Type 0 where
  NoEnt BadFile Busy Exist NotDir IsDir Invalid TooBig NoSpace ReadOnly NameTooLong NotEmpty NoAttr Failed EntryFull : Refusal

-- The flags of an open.
pub record FlagsOfOpen : Type 0 where
  pub read : Bool
  pub write : Bool
  pub create : Bool
  pub exclusive : Bool
  pub truncate : Bool
  pub append : Bool
  -- A bit is set that belongs to no flag.
  pub unknown : Bool

-- An operation of a session. Paths are given as bytes, and open files by their numbers.
pub data Operation : Type 0 where
  Open : (path : List ℕ) (flags : FlagsOfOpen) → Operation
  Read : (fd count : ℕ) → Operation
  Write : (fd : ℕ) (bytes : List ℕ) → Operation
  Seek : (fd position : ℕ) → Operation
  Truncate : (fd size : ℕ) → Operation
  Sync : (fd : ℕ) → Operation
  Close : (fd : ℕ) → Operation
  Mkdir : (path : List ℕ) → Operation
  Remove : (path : List ℕ) → Operation
  Rename : (old new : List ℕ) → Operation
  ListAll : (path : List ℕ) → Operation
  Stat : (path : List ℕ) → Operation
  GetAttr : (path : List ℕ) (kind : ℕ) → Operation
  SetAttr : (path : List ℕ) (kind : ℕ) (bytes : List ℕ) → Operation
  RemoveAttr : (path : List ℕ) (kind : ℕ) → Operation
  AskGstate : Operation
  IsUsed : (block : ℕ) → Operation
  UsedCount : Operation
  Recover : Operation
  Remount : Operation

-- An entry of a directory: its name, and the size of a file, or None for a directory.
pub record ListedEntry : Type 0 where
  pub name : Name
  pub size : Option ℕ

-- The reply of a session to an operation.
pub data Reply : Type 0 where
  Done : Reply
  Opened : (fd : ℕ) → Reply
  Bytes : (bytes : List ℕ) → Reply
  Count : (count : ℕ) → Reply
  Items : (items : List ListedEntry) → Reply
  StatIs : (size : Option ℕ) → Reply
  GstateIs : (sync : Bool) (moving : Option ((ℕ × ℕ) × ℕ)) → Reply
  Yes : (yes : Bool) → Reply
  Refused : (error : Refusal) → Reply

-- The path that these bytes denote, or None if they aren't a valid absolute path.
abbrev pub parse_path : List ℕ → Option Path
parse_path [] = None
parse_path (b ∷ bytes) =
    if not (b == slash_byte) then None
    else (if nat_lt 0 (length bytes)
    then (if list_all is_component (slice_split (λ c. c == slash_byte) bytes) then Some (slice_split (λ c. c == slash_byte) bytes) else None)
    else Some [])

-- The bytes of a path other than the root: every name after a slash.
abbrev pub path_bytes : Path → List ℕ
path_bytes path = flat_map (λ name. slash_byte ∷ name) path
