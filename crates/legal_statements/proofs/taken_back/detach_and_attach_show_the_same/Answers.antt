use Rattle.soundness.proofs.Sound.{catalogue_sound_of}
use Rattle.legal_statements.proofs.Moved.{same_trees, same_paths, same_seen}
use Rattle.legal_statements.proofs.Once.{one_over}
use Rattle.legal_statements.proofs.taken_back.detach_and_attach_show_the_same.Goals as goal

pub returns : goal.returns
returns c = λ g h session table leaf s legal permitted back.
    let sound = catalogue_sound_of h legal in
    let siblings = c.sessions_have_siblings.ensures h session legal permitted in
    record {
      tree = same_trees g h session s back sound siblings table;
      path = same_paths g h session back sound siblings (one_over g h session legal permitted back) table;
      rows = same_seen g h leaf s back;
    }
