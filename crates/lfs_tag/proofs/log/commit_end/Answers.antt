use Rattle.std.proofs.Common.{rules, ◌≡◌, sym, ap, ◌∙◌, Some, None, true, false}
use Rattle.lfs_tag.proofs.Common.{option_map, is_checksum_entry, commit_at, entry_end, log_entry_view, stop, commit_none}
use Rattle.lfs_model.specs.format.Log.{entry_at, closes}
use Rattle.lfs_model.proofs.Chains.{commit_closed, commit_refused, commit_on, stop-with}
use Rattle.lfs_tag.proofs.log.commit_end.Goals as goal

pub returns-then-is_valid_checksum-clause-value : goal.returns-then-is_valid_checksum-clause-value
returns-then-is_valid_checksum-clause-value c =
    let e = log_entry_view c.in-Some.entry in
    let is : entry_at c.args.block.now c.loop-entry.at c.loop-entry.before ≡ Some e = sym c.in-Some.ensures.value in
    let sum : is_checksum_entry e ≡ true = sym c.ends_commit.ensures ∙ c.if-ends_commit.true in
    let right : closes c.args.block.now c.args.start c.loop-entry.at e ≡ true = sym c.is_valid_checksum.ensures ∙ c.if-is_valid_checksum.true in
    rw c.as_previous_tag.ensures (sym (ap (option_map stop) (commit_closed c.args.block.now c.args.start c.loop-entry.at c.loop-entry.before e is sum right)) ∙ c.loop-entry.invariant.same)

pub returns-else-is_valid_checksum-clause-value : goal.returns-else-is_valid_checksum-clause-value
returns-else-is_valid_checksum-clause-value c =
    let e = log_entry_view c.in-Some.entry in
    let is : entry_at c.args.block.now c.loop-entry.at c.loop-entry.before ≡ Some e = sym c.in-Some.ensures.value in
    let sum : is_checksum_entry e ≡ true = sym c.ends_commit.ensures ∙ c.if-ends_commit.true in
    let wrong : closes c.args.block.now c.args.start c.loop-entry.at e ≡ false = sym c.is_valid_checksum.ensures ∙ c.if-is_valid_checksum.false in
    sym (ap (option_map stop) (commit_refused c.args.block.now c.args.start c.loop-entry.at c.loop-entry.before e is sum wrong)) ∙ c.loop-entry.invariant.same

pub loop-entry-preserved : goal.loop-entry-preserved
loop-entry-preserved c =
    let e = log_entry_view c.in-Some.entry in
    let is : entry_at c.args.block.now c.loop-entry.at c.loop-entry.before ≡ Some e = sym c.in-Some.ensures.value in
    let other : is_checksum_entry e ≡ false = sym c.ends_commit.ensures ∙ c.if-ends_commit.false in
    record {
      start = search rules;
      reached = search rules;
      same = sym (stop-with e (commit_at c.args.block.now c.args.start (entry_end c.loop-entry.at e) e.tag)) ∙ sym (ap (option_map stop) (commit_on c.args.block.now c.args.start c.loop-entry.at c.loop-entry.before e is other)) ∙ c.loop-entry.invariant.same;
    }

pub returns-clause-value : goal.returns-clause-value
returns-clause-value c =
    let is : entry_at c.args.block.now c.loop-entry.at c.loop-entry.before ≡ None = sym c.in_default.ensures.value in
    sym (ap (option_map stop) (commit_none c.args.block.now c.args.start c.loop-entry.at c.loop-entry.before is)) ∙ c.loop-entry.invariant.same
