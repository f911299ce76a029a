-- The layout of slots after an existing file is opened for writing.
use Rattle.std.proofs.Common.{ℕ, ◌≡◌, List, Some}
use Rattle.lfs_fs.proofs.Common.{CallEvent, Disk, IsLayoutAfterRecovery, FlagsOfOpen, Session, path_or_root, Pair, Node}
use Rattle.lfs_model.specs.session.Moved.{IsLayoutAfterRelocation}
use Rattle.lfs_model.specs.session.Operations as ops

-- it is the one that a recovery leaves
there_arranged : (disk new : Disk) (ps qs : List Pair) (s : Session) (bytes : List ℕ) (flags : FlagsOfOpen) (n : Node) → s.tree (path_or_root bytes) ≡ Some n → IsLayoutAfterRecovery disk ps s ops.Recover new qs →
    IsLayoutAfterRecovery disk ps s (ops.Open bytes flags) new qs
there_arranged disk new ps qs s bytes flags n there a = record {
  middle = a.middle;
  between = a.between;
  accepted = a.accepted;
  recovered = a.recovered;
  recovery = a.recovery;
  operation = record {
    drafts = a.operation.drafts;
    parts = a.operation.parts;
    front = a.operation.front;
    fresh = a.operation.fresh;
    back = a.operation.back;
    edits = (a.operation.edits.0, rw there a.operation.edits.1);
    stand = a.operation.stand;
    joined = a.operation.joined;
    is = a.operation.is;
  };
}

-- and a pair may have moved after it
pub there_moved : (disk new : Disk) (ps qs : List Pair) (s : Session) (bytes : List ℕ) (flags : FlagsOfOpen) (n : Node) (calls : List CallEvent) → s.tree (path_or_root bytes) ≡ Some n → IsLayoutAfterRelocation disk ps s ops.Recover calls new qs →
    IsLayoutAfterRelocation disk ps s (ops.Open bytes flags) calls new qs
there_moved disk new ps qs s bytes flags n calls there a = record {
  done = a.done;
  after = a.after;
  had = a.had;
  geometry = a.geometry;
  accepted = a.accepted;
  operation = there_arranged disk a.done ps a.after s bytes flags n there a.operation;
  spread = a.spread;
}
