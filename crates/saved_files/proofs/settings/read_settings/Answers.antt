use Rattle.saved_files.proofs.settings.read_settings.Goals as goal

pub returns : goal.returns
returns g c = λ s healthy. (c.in_ok-bytes.ensures.read s healthy).0
