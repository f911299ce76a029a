use Rattle.std.proofs.Common.{sym}
use Rattle.lfs_blocks.proofs.MarkLemmas.{bit_at-tested, bit_at-tested_none, state_at_bit-used, state_at_bit-in_flight, state_at_bit-free}
use Rattle.lfs_blocks.proofs.marks.Marks.state.Goals as goal

pub returns-then-self-bit-ne0 : goal.returns-then-self-bit-ne0
returns-then-self-bit-ne0 c =
    sym (state_at_bit-used c.args.self c.args.place (bit_at-tested c.args.self.used c.args.place c.requires c.if-self-bit-ne0.true))

pub returns-then-self-bit-ne0-2 : goal.returns-then-self-bit-ne0-2
returns-then-self-bit-ne0-2 c =
    sym (state_at_bit-in_flight c.args.self c.args.place
    (bit_at-tested_none c.args.self.used c.args.place c.requires c.if-self-bit-ne0.false)
    (bit_at-tested c.args.self.in_flight c.args.place c.requires c.if-self-bit-ne0-2.true))

pub returns-else-self-bit-ne0-2 : goal.returns-else-self-bit-ne0-2
returns-else-self-bit-ne0-2 c =
    sym (state_at_bit-free c.args.self c.args.place
    (bit_at-tested_none c.args.self.used c.args.place c.requires c.if-self-bit-ne0.false)
    (bit_at-tested_none c.args.self.in_flight c.args.place c.requires c.if-self-bit-ne0-2.false))
