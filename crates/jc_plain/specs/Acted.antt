-- What a function that acts on a frame in place answers, as the definition's answer.
use Rattle.jc_jvm.specs.Frames.{Act, Goes, Throws, Fails}
use Rattle.jc_jvm.specs.declared.frame.Frame.{Frame}
use Rattle.jc_plain.specs.declared.acts.Act.{Act as Answer}
use Rattle.jc_plain.specs.declared.acts.Act.TheVariants as answer

-- where it leaves this frame
abbrev pub acted : Answer → Frame → Act
acted answer.Goes now = Goes now
acted (answer.Throws fault) now = Throws fault now
acted answer.Fails now = Fails
