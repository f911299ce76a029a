use Rattle.std.proofs.Common.{◌∙◌, ap, sym, w64}
use Rattle.std.proofs.lemmas.Nat.Bits.{bit_at_clear_same, bit_at_clear_other}
use Rattle.lfs_blocks.specs.Marks.{use_view}
use Rattle.lfs_blocks.proofs.MarkLemmas.{bit_at-put_same, bit_at-put_other, state_at_bit-used, state_at_bit-in_flight, state_at_bit-free, state_at_bit-same}
use Rattle.lfs_blocks.proofs.marks.Marks.with_state.Goals as goal

pub returns-in-Free-clause-here : goal.returns-in-Free-clause-here
returns-in-Free-clause-here c =
    state_at_bit-free _ c.args.place (bit_at_clear_same w64 c.args.self.used c.args.place c.requires) (bit_at_clear_same w64 c.args.self.in_flight c.args.place c.requires)
    ∙ sym (ap use_view c.in-Free.is)

pub returns-in-Free-clause-others : goal.returns-in-Free-clause-others
returns-in-Free-clause-others c = λ other lt ne. state_at_bit-same _ _ other
    (bit_at_clear_other w64 c.args.self.used c.args.place c.requires other lt ne)
    (bit_at_clear_other w64 c.args.self.in_flight c.args.place c.requires other lt ne)

pub returns-in-InFlight-clause-here : goal.returns-in-InFlight-clause-here
returns-in-InFlight-clause-here c =
    state_at_bit-in_flight _ c.args.place (bit_at_clear_same w64 c.args.self.used c.args.place c.requires) (bit_at-put_same c.args.self.in_flight c.args.place c.requires)
    ∙ sym (ap use_view c.in-InFlight.is)

pub returns-in-InFlight-clause-others : goal.returns-in-InFlight-clause-others
returns-in-InFlight-clause-others c = λ other lt ne. state_at_bit-same _ _ other
    (bit_at_clear_other w64 c.args.self.used c.args.place c.requires other lt ne)
    (bit_at-put_other c.args.self.in_flight c.args.place other c.requires lt ne)

pub returns-in-Used-clause-here : goal.returns-in-Used-clause-here
returns-in-Used-clause-here c =
    state_at_bit-used _ c.args.place (bit_at-put_same c.args.self.used c.args.place c.requires)
    ∙ sym (ap use_view c.in-Used.is)

pub returns-in-Used-clause-others : goal.returns-in-Used-clause-others
returns-in-Used-clause-others c = λ other lt ne. state_at_bit-same _ _ other
    (bit_at-put_other c.args.self.used c.args.place other c.requires lt ne)
    (bit_at_clear_other w64 c.args.self.in_flight c.args.place c.requires other lt ne)
