use Rattle.std.proofs.Common.{arith, sym, ◌∙◌, ap, ◌≡◌, ◌-◌, length, take, drop, take-append-drop}
use Rattle.lfs_tag.proofs.Common.{take_all, length-drop, crc-append}
use Rattle.lfs_model.specs.format.Crc.{crc_of}
use Rattle.lfs_model.proofs.Checksums.{crc_is_remainder, one_checksum, crc_lt}
use Rattle.lfs_tag.proofs.checksum.crc.Goals as goal

pub loop-rest-preserved : goal.loop-rest-preserved
loop-rest-preserved c =
    let sum = c.loop-rest.sum in
    let rest = c.loop-rest.rest.now in
    let all : take (length rest - 8) (drop 8 rest) ≡ drop 8 rest = take_all (length rest - 8) (drop 8 rest) (omega (arith, length-drop 8 rest)) in
    rw (all, c.crc_after_eight-sum.ensures) (sym (crc-append sum (take 8 rest) (drop 8 rest)) ∙ ap (crc_of sum) (take-append-drop 8 rest) ∙ c.loop-rest.invariant)

value : goal.returns-clause-value
value c = c.crc_after_bytes.ensures ∙ c.loop-rest.invariant

pub returns-clause-value : goal.returns-clause-value
returns-clause-value c = value c

pub returns-clause-remainder : goal.returns-clause-remainder
returns-clause-remainder c = rw (value c) (crc_is_remainder c.args.start c.args.bytes.now (omega arith) (λ i. omega (arith, c.type_inv.bytes i)))

pub returns-clause-only : goal.returns-clause-only
returns-clause-only c = λ other lt is.
    rw (value c) (one_checksum c.args.start c.args.bytes.now other _ lt (crc_lt c.args.start c.args.bytes.now (omega arith) (λ i. omega (arith, c.type_inv.bytes i))) is
    (crc_is_remainder c.args.start c.args.bytes.now (omega arith) (λ i. omega (arith, c.type_inv.bytes i))))
