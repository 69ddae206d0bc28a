-- That a clip table may be sent to another thread, and shared by several: each alone, and (`in`) as part of what holds it.
use denote.Param.Send.{IsSend, IsSync, sendable}
use Rattle.loop_clips.specs.contracts.table.ClipTable as ClipTable

pub clips_send : IsSend ClipTable.the_row
clips_send = search sendable depth 40

pub clips_sync : IsSync ClipTable.the_row
clips_sync = search sendable depth 40
