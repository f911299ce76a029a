use Rattle.std.proofs.Common.{◌∙◌, ap, sym, ℕ, refl}
use Rattle.clap.specs.Words.{found_of, rows_of}
use Rattle.std.specs.Prelude.{codes, option_map}
use Rattle.lfs_model.specs.declared.limits.Profile.{Profile}
use Rattle.lfs_tool.specs.Matches.{profile_given_or}
use Rattle.lfs_tool.specs.Values.{number_or}
use Rattle.lfs_tool.proofs.Boards.{block_size_with_board, broken_limit_with_block_size, profile_with_board}
use Rattle.lfs_tool.proofs.Getters.{text_there}
use Rattle.lfs_tool.proofs.line.line_of_matches.Goals as goal

pub unwrap-requires : goal.unwrap-requires
unwrap-requires c = text_there _ c.argument_text.result (λ s. s.now) (found_of c.args.matches.now) (codes "image") c.argument_text.ensures c.requires.image

pub returns-in-Some-clause-err : goal.returns-in-Some-clause-err
returns-in-Some-clause-err c =
    let rows = rows_of (found_of c.args.matches.now) in
    let other = ap (λ (n : ℕ). number_or n (codes "block") rows) c.block_size.ensures in
    let size = block_size_with_board rows c.args.choices.board c.requires.choices.board ∙ sym (c.number_given_or-block_size.ensures ∙ other) in
    broken_limit_with_block_size rows c.number_given_or-block_size.result c.first_broken_limit.result size c.first_broken_limit.ensures ∙ c.in-Some.is

pub returns-clause-ok : goal.returns-clause-ok
returns-clause-ok c =
    let rows = rows_of (found_of c.args.matches.now) in
    let other = ap (λ (n : ℕ). number_or n (codes "block") rows) c.block_size.ensures in
    let size = block_size_with_board rows c.args.choices.board c.requires.choices.board ∙ sym (c.number_given_or-block_size.ensures ∙ other) in
    let profile = ap (λ (p : Profile). profile_given_or p rows) c.profile.ensures in
    record {
      one_mode = c.requires.choices.one_mode;
      mode = c.requires.choices.mode;
      known_board = rw c.requires.choices.board refl;
      block_size = size;
      is_auto = sym c.has_auto_blocks.ensures;
      has_own_limits = sym c.flag_value.ensures;
      offset = sym c.number_given_or.ensures;
      page = sym c.number_given_or-2.ensures;
      size = sym c.number_given_or-3.ensures;
      order = c.requires.choices.order;
      explain = sym c.flag_value-2.ensures;
      limits = broken_limit_with_block_size rows c.number_given_or-block_size.result c.first_broken_limit.result size c.first_broken_limit.ensures ∙ c.in_default.is;
      profile = profile_with_board rows c.args.choices.board c.requires.choices.board ∙ sym (c.profile_given_or.ensures ∙ profile);
      image = sym c.argument_text.ensures ∙ ap (λ o. option_map (λ s. s.now) o) c.unwrap.ensures;
    }
