use Rattle.lfs_fs.proofs.FlagBits.{either_has, either_unknown}
use Rattle.lfs_fs.proofs.flags.OpenFlags.union.Goals as goal

-- flag by flag
pub returns : goal.returns
returns c = λ i. record {
  read = either_has c.args.self.0 c.args.other.0 0 i;
  write = either_has c.args.self.0 c.args.other.0 1 i;
  create = either_has c.args.self.0 c.args.other.0 8 i;
  exclusive = either_has c.args.self.0 c.args.other.0 9 i;
  truncate = either_has c.args.self.0 c.args.other.0 10 i;
  append = either_has c.args.self.0 c.args.other.0 11 i;
  unknown = either_unknown c.args.self.0 c.args.other.0 0xf03 i;
}
