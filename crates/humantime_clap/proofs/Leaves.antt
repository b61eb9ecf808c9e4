-- What a call leaves of a command: `BuildsOrBreaks` over equal commands.
use Rattle.std.proofs.Common.{◌≡◌, inl, inr, refl, sym}
use Rattle.clap.specs.Built.{BuildsOrBreaks}
use Rattle.clap.specs.declared.builder.command.Command.{Command}
use Rattle.clap.proofs.BuiltLemmas.{built_refl}

pub unbuilt : (old new : Command) → new ≡ old → BuildsOrBreaks old new
unbuilt old new same = rw same (inr (built_refl old, (refl, refl, inl refl), inl refl))

pub built_later : (old middle new : Command) → middle ≡ old → BuildsOrBreaks middle new
    → BuildsOrBreaks old new
built_later old middle new same later = rw (sym same) later
