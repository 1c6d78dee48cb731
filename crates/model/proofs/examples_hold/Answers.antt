use Rattle.std.proofs.Common.{refl}
use Rattle.names.specs.Canonical.{canonical}
use Rattle.names.specs.Types.{has, with, asked, holdable, only_holdable, unsigned_cut, signed_cut, apex_set}
use Rattle.names.specs.Wire.{is_name, labels_of}
use Rattle.model.proofs.examples_hold.Goals as goal

pub returns : goal.returns
unfolding canonical has with asked holdable only_holdable unsigned_cut signed_cut apex_set is_name labels_of
returns c = record {
  answer = refl;
  examples = record {
    add_below_cut = refl;
    no_name = refl;
    empty_non_terminal = refl;
    wildcard = refl;
    wildcard_no_data = refl;
    ask_below_cut = refl;
    no_ds = refl;
    ask_at_signed_cut = refl;
    answered = refl;
    ds_at_apex = refl;
    clash = refl;
    taken = refl;
    opt_out_no_ds = refl;
    opt_out_no_name = refl;
  };
}
