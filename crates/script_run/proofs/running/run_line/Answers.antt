-- `script_run::running::run_line` meets its contract: the digits of a body are the text at their place.
-- Assumes nothing.
use Rattle.std.proofs.Common.{rules, ◌≡◌, Ok}
use Rattle.script.specs.declared.asked.Line.TheVariants as line
use Rattle.script.specs.Lines.{line_of}
use Rattle.script_run.specs.Asked.{asked}
use Rattle.script_run.proofs.running.run_line.Goals as goal

pub returns-in-Msg : goal.returns-in-Msg
unfolding asked
returns-in-Msg c =
    let l : line_of c.args.s.now ≡ Ok (line.Msg c.in-Msg.clock c.in-Msg.type_id c.in-Msg.time c.in-Msg.stream c.in-Msg.at) = search rules in
    rw (l, ← c.part_of-digits.ensures) c.handle_message.ensures

pub returns-in-Video : goal.returns-in-Video
unfolding asked
returns-in-Video c =
    let l : line_of c.args.s.now ≡ Ok (line.Video c.in-Video.clock c.in-Video.time c.in-Video.droppable c.in-Video.at) = search rules in
    rw (l, ← c.part_of-in-Video.ensures) c.publish_video.ensures

pub returns-in-Audio : goal.returns-in-Audio
unfolding asked
returns-in-Audio c =
    let l : line_of c.args.s.now ≡ Ok (line.Audio c.in-Audio.clock c.in-Audio.time c.in-Audio.droppable c.in-Audio.at) = search rules in
    rw (l, ← c.part_of-in-Audio.ensures) c.publish_audio.ensures
